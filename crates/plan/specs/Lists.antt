-- Lent lists that were cleared: long enough for n nodes, all missing or 0. Definitions only.
use Rattle.std.specs.Prelude.{◌≡◌, List, ℕ, ◌*◌, ◌≤◌, ℤ, pos, length, replicate}
use Rattle.matching.specs.Graph.{missing}

pub record Cleared (n : ℕ) (mates : List ℕ) (duals : List ℤ) (parents : List ℕ) : Type 0 where
  pub mates_fit : n ≤ length mates
  pub duals_fit : 2 * n ≤ length duals
  pub parents_fit : 2 * n ≤ length parents
  pub no_mates : mates ≡ replicate (length mates) missing
  pub no_duals : duals ≡ replicate (length duals) (pos 0)
  pub no_parents : parents ≡ replicate (length parents) missing
