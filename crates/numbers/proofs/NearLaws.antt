-- A number of a list replaced by one that is near to zero: the list stays near.
use mathlib.Core.List.{List, [], ◌∷◌}
use Prim.Native.Nat.{ℕ, zero, suc, ◌≤◌}
use lib.IntN.{ℤ, pos, nat_abs}
use lib.ListN.{get_or, set}
use mathlib.Core.Path.{◌≡◌}
use Rattle.laws.specs.Run.{ok, at}
use Rattle.laws.proofs.Runs.{ok_inj, not_ok}
use Rattle.numbers.specs.Near.{Near}

entries_near : (k : ℕ) (l : List ℤ) (i : ℕ) (d : ℤ) → ((j : ℕ) → nat_abs (get_or l j (pos 0)) ≤ k) → nat_abs d ≤ k
    → (j : ℕ) → nat_abs (get_or (set l i d) j (pos 0)) ≤ k
entries_near k [] i d h g j = h j
entries_near k (x ∷ xs) zero d h g zero = g
entries_near k (x ∷ xs) zero d h g (suc j) = h (suc j)
entries_near k (x ∷ xs) (suc i) d h g zero = h 0
entries_near k (x ∷ xs) (suc i) d h g (suc j) = entries_near k xs i d (λ m. h (suc m)) g j

pub set_near : (k : ℕ) (l : List ℤ) (i : ℕ) (d : ℤ) → Near k l → nat_abs d ≤ k → Near k (set l i d)
set_near k l i d h g = record { near = entries_near k l i d h.near g }

-- a number that was read
pub at_near : (k : ℕ) (l : List ℤ) (i : ℕ) (d : ℤ) → Near k l → at l i ≡ ok d → nat_abs d ≤ k
unfolding at
at_near k [] i d h e = not_ok e
at_near k (x ∷ xs) zero d h e = rw (← ok_inj e) (h.near 0)
at_near k (x ∷ xs) (suc i) d h e = at_near k xs i d (record { near = λ j. h.near (suc j) }) e
