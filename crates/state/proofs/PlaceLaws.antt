-- The place that the library's `position` finds in a list, beside the definition's.
use Rattle.std.proofs.Common.{if◌then◌else◌, ◌≡◌, ◌+◌, ℕ, suc, List, [], ◌∷◌, Bool, true, false, cond, Option, Some, None}
use Rattle.std.proofs.Common.{eqb, ltb, length, refl, add-one, ◌∙◌}
use Rattle.std.specs.List.{position_or_len, position_from}
use Rattle.std.proofs.lemmas.Iterator.Adapters.{position_from-zero}
use Rattle.laws.specs.Run.{Run, ok, fault, position, position_from as place_from}

-- the place, or a fault
abbrev run_of : Option ℕ → Run ℕ
run_of (Some i) = ok i
run_of None = fault

same_place : (i x : ℕ) (ys : List ℕ) → place_from i x ys ≡ run_of (position_from (λ y. eqb y x) i ys)
unfolding place_from
same_place i x [] = refl
same_place i x (y ∷ ys) = go (eqb y x) (same_place (suc i) x ys)
  where
    go : (t : Bool) → place_from (suc i) x ys ≡ run_of (position_from (λ y. eqb y x) (suc i) ys)
        → (if t then ok i else place_from (suc i) x ys) ≡ run_of (cond t (Some i) (position_from (λ y. eqb y x) (i + 1) ys))
    go true e = refl
    go false e = rw add-one e

module _ (x : ℕ) (ys : List ℕ) (r : Option ℕ)
    (e : r ≡ cond (ltb (position_or_len (λ y. eqb y x) ys) (length ys)) (Some (position_or_len (λ y. eqb y x) ys)) None) where
  told : position x ys ≡ run_of r
  told = same_place 0 x ys ∙ rw (e, position_from-zero (λ y. eqb y x) ys) refl

  pub place_found : (i : ℕ) → r ≡ Some i → position x ys ≡ ok i
  place_found i h = rw h at told

  pub place_none : r ≡ None → position x ys ≡ fault
  place_none h = rw h at told
