-- Bounds on all numbers of a list, so that a sum of a few of them fits.
use Rattle.std.specs.Prelude.{ℕ, ◌≤◌, List, ℤ, pos, nat_abs, get_or}

-- each number of the list is within k of zero
pub record Near (k : ℕ) (l : List ℤ) : Type 0 where
  pub near : (i : ℕ) → nat_abs (get_or l i (pos 0)) ≤ k
