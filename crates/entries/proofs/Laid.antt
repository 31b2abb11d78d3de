-- What is known of `laid`: it keeps the length of what it is laid over, one more entry is one store, and where all entries fit, the front
-- is the list of the fields.
-- Assumes nothing.
use mathlib.Core.Path.{◌≡◌, refl, ap}
use Prim.Native.Nat.{ℕ, zero, suc, ◌<◌, ◌≤◌}
use native.Mathlib.Nat.{not-suc-le-zero, le_of_suc-le-suc}
use mathlib.Core.List.{List, [], ◌∷◌, map}
use lib.ListN.{length, get_or, set, take}
use Rattle.entries.specs.Entries.{laid}

module _ {A B : Type 0} (f : A → B) where
  pub laid_length : (n : ℕ) (es : List A) (zs : List B) → length (laid f n es zs) ≡ length zs
  unfolding laid
  laid_length zero es zs = refl
  laid_length (suc n) [] zs = refl
  laid_length (suc n) (e ∷ es) [] = refl
  laid_length (suc n) (e ∷ es) (z ∷ zs) = ap suc (laid_length n es zs)

  -- storing f of entry n lays one entry more
  pub laid_set : (n : ℕ) (es : List A) (zs : List B) (d : A) → n < length es → n < length zs → set (laid f n es zs) n (f (get_or es n d)) ≡ laid f (suc n) es zs
  unfolding laid
  laid_set n [] zs d l k = absurd (not-suc-le-zero l)
  laid_set n (e ∷ es) [] d l k = absurd (not-suc-le-zero k)
  laid_set zero (e ∷ es) (z ∷ zs) d l k = refl
  laid_set (suc n) (e ∷ es) (z ∷ zs) d l k = ap (λ (xs : List B). f e ∷ xs) (laid_set n es zs d (le_of_suc-le-suc l) (le_of_suc-le-suc k))

  -- where all of es is laid, the front is f of each entry
  pub laid_front : (es : List A) (zs : List B) → length es ≤ length zs → take (length es) (laid f (length es) es zs) ≡ map f es
  unfolding laid
  laid_front [] zs l = refl
  laid_front (e ∷ es) [] l = absurd (not-suc-le-zero l)
  laid_front (e ∷ es) (z ∷ zs) l = ap (λ (xs : List B). f e ∷ xs) (laid_front es zs (le_of_suc-le-suc l))

  pub laid_none : (es : List A) (zs : List B) → zs ≡ laid f zero es zs
  unfolding laid
  laid_none es zs = refl
