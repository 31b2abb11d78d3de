-- Whether a list has an entry twice: its first entry is in the rest, or the rest has one twice.
use Rattle.std.proofs.Common.{◌≡◌, ℕ, true, false, eqb, List, [], ◌∷◌, length, refl, arith}
use Rattle.std.specs.List.{list_any}
use Rattle.laws.specs.Lists.{repeats}
use Rattle.numbers.proofs.Members.{any_member}

module _ (x : ℕ) (xs : List ℕ) where
  pub repeats_here : list_any (λ y. eqb y x) xs ≡ true → repeats (x ∷ xs) ≡ true
  unfolding repeats
  repeats_here e = let m = rw (any_member x xs) at e in rw m

  pub repeats_later : list_any (λ y. eqb y x) xs ≡ false → repeats (x ∷ xs) ≡ repeats xs
  unfolding repeats
  repeats_later e = let m = rw (any_member x xs) at e in rw m

pub repeats_none : (xs : List ℕ) → length xs ≡ 0 → repeats xs ≡ false
unfolding repeats
repeats_none [] e = refl
repeats_none (x ∷ xs) e = absurd (omega (arith, e))

pub ruleset repeating = (repeats_here, repeats_later, repeats_none)
