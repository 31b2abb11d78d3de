-- Rows of a pool: reading a row, and what a store to the pool or to a count does to the rows.
use mathlib.Core.Path.{◌≡◌, refl, sym, ap, ap₂, ◌∙◌}
use mathlib.Core.Bool.{Bool, true, false, not}
use mathlib.Core.Logic.{◌≢◌, ⊎_elim}
use mathlib.Core.List.{List, ◌∷◌, ◌++◌, map, append_assoc}
use Prim.Native.Nat.{ℕ, zero, suc, ◌+◌, ◌*◌, ◌-◌, ◌≤◌, ◌<◌, min}
use native.Mathlib.Nat.{not-suc-le-zero, le_of_suc-le-suc, add-zero, mul-le-mul_right, eq-or-lt_of_le}
use native.Mathlib.Omega.{arith}
use lib.Dec.{T, ltb, ltb→lt, nltb→le}
use lib.ListN.{length, get_or, set, take, drop, length-take, length-drop, length-append, replicate}
use lib.Seq.{get_or-take, get_or-drop, drop-set-add, drop-set-lt, take-set-le, take_at, take_all, take-take, drop_at, take-append-le}
use lib.Seq.{drop-append-le, drop-append-add}
use Rattle.laws.specs.Lists.{range}
use Rattle.laws.specs.Run.{ok, fault, at, put}
use Rattle.laws.specs.Rows.{rows, places, row_of}
use Rattle.laws.proofs.Lists.{count_on}
use Rattle.laws.proofs.Windows.{at_in, at_out, put_in}

-- ---- rows that a function gives

at_zero : (j : ℕ) → 0 + j ≡ j
at_zero j = omega arith

module _ {A : Type 0} where
  at_rows_from : (f : ℕ → A) (from k i : ℕ) → i < k → at (map f (range from k)) i ≡ ok (f (from + i))
  unfolding range at
  at_rows_from f from zero i h = absurd (not-suc-le-zero h)
  at_rows_from f from (suc k) zero h = rw add-zero
  at_rows_from f from (suc k) (suc i) h =
      at_rows_from f (suc from) k i (le_of_suc-le-suc h) ∙ ap (λ (j : ℕ). ok (f j)) (count_on from i)

  length_rows_from : (f : ℕ → A) (from k : ℕ) → length (map f (range from k)) ≡ k
  unfolding range
  length_rows_from f from zero = refl
  length_rows_from f from (suc k) = ap suc (length_rows_from f (suc from) k)

  same_rows_from : (f f' : ℕ → A) (from k : ℕ) → ((j : ℕ) → from ≤ j → f j ≡ f' j) → map f (range from k) ≡ map f' (range from k)
  unfolding range
  same_rows_from f f' from zero e = refl
  same_rows_from f f' from (suc k) e =
      ap₂ {C = List A} ◌∷◌ (e from (omega arith)) (same_rows_from f f' (suc from) k (λ j h. e j (omega arith)))

  set_rows_from : (f f' : ℕ → A) (v : A) (from k i : ℕ) → f' (from + i) ≡ v → ((j : ℕ) → j ≢ from + i → f j ≡ f' j)
      → set (map f (range from k)) i v ≡ map f' (range from k)
  unfolding range
  set_rows_from f f' v from zero i e n = refl
  set_rows_from f f' v from (suc k) zero e n =
      ap₂ {C = List A} ◌∷◌ (sym e ∙ ap f' (add-zero from)) (same_rows_from f f' (suc from) k (λ j h. n j (λ q. omega arith)))
  set_rows_from f f' v from (suc k) (suc i) e n =
      ap₂ {C = List A} ◌∷◌ (n from (λ q. omega arith))
      (set_rows_from f f' v (suc from) k i (ap f' (count_on from i) ∙ e) (λ j m. n j (λ q. m (q ∙ sym (count_on from i)))))

  pub length_rows : (f : ℕ → A) (k : ℕ) → length (rows f k) ≡ k
  length_rows f k = length_rows_from f 0 k

  pub at_rows : (f : ℕ → A) (k i : ℕ) → i < k → at (rows f k) i ≡ ok (f i)
  at_rows f k i h = at_rows_from f 0 k i h ∙ ap (λ (j : ℕ). ok (f j)) (at_zero i)

  constant_rows_from : (f : ℕ → A) (v : A) (from k : ℕ) → ((j : ℕ) → f j ≡ v) → map f (range from k) ≡ replicate k v
  unfolding range
  constant_rows_from f v from zero e = refl
  constant_rows_from f v from (suc k) e = ap₂ {C = List A} ◌∷◌ (e from) (constant_rows_from f v (suc from) k e)

  -- rows that are all the same
  pub constant_rows : (f : ℕ → A) (v : A) (k : ℕ) → ((j : ℕ) → f j ≡ v) → rows f k ≡ replicate k v
  constant_rows f v k e = constant_rows_from f v 0 k e

  pub at_rows_out : (f : ℕ → A) (k i : ℕ) → k ≤ i → at (rows f k) i ≡ fault
  at_rows_out f k i h = at_out (rows f k) i (rw (length_rows f k) h)

  -- a store that makes row i v and leaves the others
  pub set_rows : (f f' : ℕ → A) (v : A) (k i : ℕ) → f' i ≡ v → ((j : ℕ) → j ≢ i → f j ≡ f' j) → set (rows f k) i v ≡ rows f' k
  set_rows f f' v k i e n = set_rows_from f f' v 0 k i (ap f' (at_zero i) ∙ e) (λ j m. n j (λ q. m (q ∙ sym (at_zero i))))

  pub put_rows : (f f' : ℕ → A) (v : A) (k i : ℕ) → i < k → f' i ≡ v → ((j : ℕ) → j ≢ i → f j ≡ f' j) → put (rows f k) i v ≡ ok (rows f' k)
  put_rows f f' v k i h e n = put_in (rows f k) i v (rw (length_rows f k) h) ∙ ap ok (set_rows f f' v k i e n)

-- ---- rows of a pool

before : (width a b : ℕ) → a < b → a * width + width ≤ b * width
before width a b h = omega (arith, mul-le-mul_right width h)

module _ {A : Type 0} (width : ℕ) where
  pub row_of_length : (counts : List ℕ) (pool : List A) (g : ℕ) → g * width + width ≤ length pool
      → length (row_of width counts pool g) ≡ min (get_or counts g 0) width
  row_of_length counts pool g h = simp (length-take, length-drop) (omega arith)

  -- entry k of row g is the pool's at g * width + k
  pub row_of_at : (counts : List ℕ) (pool : List A) (g k : ℕ) (d : A) → k < min (get_or counts g 0) width
      → get_or (row_of width counts pool g) k d ≡ get_or pool (g * width + k) d
  row_of_at counts pool g k d h =
      get_or-take (get_or counts g 0) (places width pool g) k d (omega arith)
      ∙ get_or-take width (drop (g * width) pool) k d (omega arith)
      ∙ get_or-drop (g * width) pool k d

  pub at_row_of : (counts : List ℕ) (pool : List A) (g k : ℕ) (d : A) → g * width + width ≤ length pool → k < min (get_or counts g 0) width
      → at (row_of width counts pool g) k ≡ ok (get_or pool (g * width + k) d)
  at_row_of counts pool g k d h l =
      at_in (row_of width counts pool g) k d (rw (row_of_length counts pool g h) l) ∙ ap ok (row_of_at counts pool g k d l)

  -- a store in row g's places leaves the places of the others
  pub places_other : (pool : List A) (g k : ℕ) (v : A) (j : ℕ) → j ≢ g → k < width
      → places width (set pool (g * width + k) v) j ≡ places width pool j
  places_other pool g k v j n l = go (ltb j g) (ltb→lt j g) (nltb→le j g)
    where
      -- the store lies past row j
      past : j < g → places width (set pool (g * width + k) v) j ≡ places width pool j
      past h =
          let far : g * width + k ≡ j * width + (g * width + k - j * width) = omega (arith, before width j g h) in
          rw (far, drop-set-add (j * width) pool (g * width + k - j * width) v)
          (take-set-le width (drop (j * width) pool) (g * width + k - j * width) v (omega (arith, before width j g h)))

      -- the store lies ahead of row j
      ahead : g < j → places width (set pool (g * width + k) v) j ≡ places width pool j
      ahead h = rw (drop-set-lt (j * width) pool (g * width + k) v (omega (arith, before width g j h)))

      go : (t : Bool) → (T t → j < g) → (T (not t) → g ≤ j) → places width (set pool (g * width + k) v) j ≡ places width pool j
      go true f h = past (f tt)
      go false f h = ahead (⊎_elim (λ e. absurd (n (sym e))) (λ q. q) (eq-or-lt_of_le (h tt)))

  -- ---- a row rewritten whole: the pool is a, the row's entries in use, and what is after them

  cut_twice : (k n : ℕ) (r c : List A) → length r ≡ min k n → take k (take n (r ++ c)) ≡ r
  cut_twice k n r c h = go (ltb k n) (ltb→lt k n) (nltb→le k n)
    where
      go : (t : Bool) → (T t → k < n) → (T (not t) → n ≤ k) → take k (take n (r ++ c)) ≡ r
      go true f g = let l : k < n = f tt in take-take k n (r ++ c) (omega arith) ∙ take_at r c k (omega arith)
      go false f g = let l : n ≤ k = g tt in ap (take k) (take_at r c n (omega arith)) ∙ take_all k r (omega arith)

  module _ (a c : List A) (g : ℕ) (e : length a ≡ g * width) where
    pub row_whole : (counts : List ℕ) (r : List A) → length r ≡ min (get_or counts g 0) width → row_of width counts (a ++ (r ++ c)) g ≡ r
    row_whole counts r h = rw (drop_at a (r ++ c) (g * width) e) (cut_twice (get_or counts g 0) width r c h)

    pub other_row : (r r' : List A) → length r ≡ length r' → length r ≤ width → (j : ℕ) → j ≢ g
        → places width (a ++ (r ++ c)) j ≡ places width (a ++ (r' ++ c)) j
    other_row r r' h l j d = go (ltb j g) (ltb→lt j g) (nltb→le j g)
      where
        early : (z : List A) → j < g → places width (a ++ z) j ≡ take width (drop (j * width) a)
        early z q =
            let m : j * width + width ≤ g * width = before width j g q in
            let k : width ≤ length (drop (j * width) a) = rw (length-drop (j * width) a) (omega arith) in
            rw (drop-append-le (j * width) a z (omega arith)) (take-append-le width (drop (j * width) a) z k)

        late : (x : List A) → length x ≡ length r → g < j → places width (a ++ (x ++ c)) j ≡ take width (drop (j * width - (g * width + length r)) c)
        late x q m =
            let far : g * width + width ≤ j * width = before width g j m in
            let both : length (a ++ x) ≡ g * width + length r = length-append a x ∙ omega arith in
            let place : j * width ≡ length (a ++ x) + (j * width - (g * width + length r)) = omega arith in
            ap (take width) (ap (drop (j * width)) (sym (append_assoc a x c)) ∙ ap (λ (k : ℕ). drop k ((a ++ x) ++ c)) place
            ∙ drop-append-add (a ++ x) c (j * width - (g * width + length r)))

        go : (t : Bool) → (T t → j < g) → (T (not t) → g ≤ j) → places width (a ++ (r ++ c)) j ≡ places width (a ++ (r' ++ c)) j
        go true f k = early (r ++ c) (f tt) ∙ sym (early (r' ++ c) (f tt))
        go false f k =
            let m : g < j = ⊎_elim (λ e. absurd (d (sym e))) (λ q. q) (eq-or-lt_of_le (k tt)) in
            late r refl m ∙ sym (late r' (sym h) m)
