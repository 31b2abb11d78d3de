-- A list that is written from a place on.
use Rattle.std.proofs.Common.{◌≡◌, refl, ap, ◌∙◌, List, [], ◌∷◌, ◌++◌, map, ℕ, suc, ◌+◌, ◌<◌, arith, length, get_or, set, take}
use Rattle.std.proofs.Common.{append_assoc, take-suc, take-suc-set, add-one}

module _ (f : ℕ → ℕ) where
  map_snoc : (xs : List ℕ) (x : ℕ) → map f (xs ++ (x ∷ [])) ≡ map f xs ++ (f x ∷ [])
  map_snoc [] x = refl
  map_snoc (y ∷ ys) x = ap (λ (r : List ℕ). f y ∷ r) (map_snoc ys x)

  -- what the next of a list becomes goes after those that stand
  pub map_more : (row first l : List ℕ) (from k : ℕ) → from + k < length row → k < length l → take (from + k) row ≡ first ++ map f (take k l)
      → take (from + (k + 1)) (set row (from + k) (f (get_or l k 0))) ≡ first ++ map f (take (k + 1) l)
  map_more row first l from k h m e =
      let n : from + (k + 1) ≡ suc (from + k) = omega arith in
      rw (n, add-one k, take-suc l k 0 m, map_snoc (take k l) (get_or l k 0))
      (take-suc-set row (from + k) (f (get_or l k 0)) h
      ∙ ap (λ (r : List ℕ). r ++ (f (get_or l k 0) ∷ [])) e
      ∙ append_assoc first (map f (take k l)) (f (get_or l k 0) ∷ []))
