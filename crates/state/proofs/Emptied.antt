-- A pool whose counts are all 0 has only empty rows.
use Rattle.std.proofs.Common.{◌≡◌, List, [], ◌∷◌, ◌++◌, ℕ, zero, suc, ◌+◌, ◌*◌, ◌<◌, ◌≤◌, length, take, replicate, map, refl, sym, ap, ap₂, ◌∙◌, arith}
use borrow.Author.Tests.{lt-ltb}
use Rattle.laws.specs.Lists.{range}
use Rattle.numbers.specs.Pools.{row_in, pooled}
use Rattle.state.proofs.Empty.{none_yet}
use Rattle.state.proofs.Rows.{pooled_length}

module _ {A : Type 0} (f : ℕ → A) (v : A) where
  first_same : (from n k : ℕ) → n ≤ k → ((j : ℕ) → j < from + n → f j ≡ v) → take n (map f (range from k)) ≡ replicate n v
  unfolding range
  first_same from zero k l h = refl
  first_same from (suc n) zero l h = absurd (omega arith)
  first_same from (suc n) (suc k) l h =
      ap₂ {C = List A} ◌∷◌ (h from (omega arith)) (first_same (suc from) n k (omega arith) (λ j m. h j (omega arith)))

twice_same : {A : Type 0} (v : A) (a b : ℕ) → replicate a v ++ replicate b v ≡ replicate (a + b) v
twice_same v zero b = let e : 0 + b ≡ b = omega arith in rw e
twice_same {A} v (suc a) b = let e : suc a + b ≡ suc (a + b) = omega arith in rw e (ap {B = List A} (λ l. v ∷ l) (twice_same v a b))

module _ (n : ℕ) (counts pool : List ℕ) where
  none : take n (pooled n counts pool) ++ replicate n [] ≡ pooled n (replicate n 0) pool
  none =
      let e : 2 * n ≡ n + n = omega arith in
      ap {B = List (List ℕ)} (λ l. l ++ replicate n []) (first_same (row_in n counts pool) [] 0 n (2 * n) (omega arith) (λ j h. rw (lt-ltb j n (omega arith))))
      ∙ twice_same [] n n ∙ ap (λ (k : ℕ). replicate k []) (sym e) ∙ sym (none_yet n pool)

  pub emptied : (k : ℕ) → length counts ≡ n → length (pooled n counts pool) ≡ 2 * k
      → pooled n (replicate (length counts) 0) pool ≡ take k (pooled n counts pool) ++ replicate k []
  emptied k h l =
      let e : k ≡ n = let p = pooled_length n counts pool in omega (arith, l, p) in rw (h, e) (sym none)
