-- The last entry of the first k of a list, and the list without it.
use Rattle.std.proofs.Common.{◌≡◌, ◌≢◌, List, [], ◌∷◌, ℕ, zero, suc, ◌-◌, ◌<◌, ◌≤◌, length, take, get_or, refl, arith}
use Rattle.laws.specs.Run.{ok, fault, pop}

window : (l : List ℕ) (k : ℕ) → k < length l → pop (take (suc k) l) ≡ ok (record { last = get_or l k 0; rest = take k l })
unfolding pop
window [] k h = let no_way : ⊥ = omega arith in absurd no_way
window (x ∷ xs) zero h = refl
window (x ∷ []) (suc k) h = let no_way : ⊥ = omega arith in absurd no_way
window (x ∷ y ∷ ys) (suc k) h = rw (window (y ∷ ys) k (omega arith))

pub pop_some : (l : List ℕ) (k : ℕ) → k ≢ 0 → k ≤ length l → pop (take k l) ≡ ok (record { last = get_or l (k - 1) 0; rest = take (k - 1) l })
pop_some l zero n h = absurd (n refl)
pop_some l (suc k) n h = let e : suc k - 1 ≡ k = omega arith in rw e (window l k (omega (arith, h)))

pub pop_none : (l : List ℕ) (k : ℕ) → k ≡ 0 → pop (take k l) ≡ fault
unfolding pop
pop_none l k e = rw e

pub ruleset pops = (pop_some, pop_none)
