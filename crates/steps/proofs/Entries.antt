-- Entries of the outermost list: each is an outermost number, and of those that differ there are no more than nodes. So a new group has
-- no more children than there are nodes, and no more links.
use mathlib.Core.Path.{◌≡◌}
use mathlib.Core.Logic.{⊎_elim}
use mathlib.Core.List.{List}
use Prim.Native.Nat.{ℕ, ◌*◌, ◌<◌, ◌≤◌}
use native.Mathlib.Omega.{arith}
use lib.ListN.{length}
use Rattle.laws.specs.Lists.{Each}
use Rattle.laws.specs.Times.{times}
use Rattle.laws.proofs.Lists.{each_map}
use Rattle.laws.proofs.Times.{none_or_some, times_each, times_at, no_longer}
use Rattle.matching.specs.Graph.{missing}
use Rattle.steps.specs.State.{Forest}
use Rattle.steps.specs.Standing.{top_of}
use Rattle.steps.proofs.Ground.{Upmost, Ground, Nothing}

-- t is the entry of some node
abbrev pub Entry : Forest → ℕ → Type 0
Entry F t = (v : ℕ) × (v < length F.tops) × (t ≡ top_of F v)

module _ {n : ℕ} {F : Forest} (g : Ground n Nothing Nothing F) where
  pub entry_upmost : (t : ℕ) → Entry F t → Upmost n F t
  entry_upmost t (v, l, e) = rw e (⊎_elim (λ p. p.upmost) (λ p. absurd p.1) (g.placed v (omega (arith, l, g.tops_length))))

  pub few_entries : (ts : List ℕ) → Each (Entry F) ts → ((t : ℕ) → times t ts ≤ 1) → length ts ≤ n
  few_entries ts h twice =
      omega (arith, g.tops_length, no_longer (2 * n) ts F.tops (each_map (λ t e. (entry_upmost t e).is_number) ts h) at_most)
    where
      at_most : (t : ℕ) → times t ts ≤ times t F.tops
      at_most t = ⊎_elim (λ z. omega (arith, z)) (λ k. omega (arith, twice t, there (times_each (Entry F) ts t h k))) (none_or_some (times t ts))
        where
          there : Entry F t → 0 < times t F.tops
          there (v, l, e) = rw e (times_at F.tops v missing l)
