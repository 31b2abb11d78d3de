-- Reads and stores of a list, and of a window: the first k entries of a list with room for more, as an array holds a list.
use mathlib.Core.Path.{◌≡◌, refl, sym, ap, ◌∙◌}
use mathlib.Core.List.{List, [], ◌∷◌, ◌++◌, append-nil}
use Prim.Native.Nat.{ℕ, zero, suc, ◌+◌, ◌-◌, ◌≤◌, ◌<◌}
use native.Mathlib.Nat.{le_of_suc-le-suc, not-suc-le-zero, zero-add, suc-add}
use native.Mathlib.Numerals.{add-one}
use native.Mathlib.Omega.{arith}
use borrow.Author.Tests.{lt-ltb, le-ltb}
use lib.ListN.{length, get_or, set, take, replicate, length-take, drop, drop_of_length-le}
use lib.Seq.{take-suc, take-suc-set, take_all, take-append-add}
use Rattle.laws.specs.Run.{Run, ok, fault, at, put, push, and_then}
use mathlib.Core.Bool.{Bool, true, false, not}
use lib.Dec.{T, ltb, ltb→lt, nltb→le}
use Rattle.laws.proofs.Runs.{not_ok}
use Rattle.laws.proofs.Kept.{kept_ok, kept_at}

module _ {A : Type 0} where
  -- ---- a whole list

  pub at_in : (xs : List A) (i : ℕ) (d : A) → i < length xs → at xs i ≡ ok (get_or xs i d)
  unfolding at
  at_in [] i d h = absurd (not-suc-le-zero h)
  at_in (x ∷ xs) zero d h = refl
  at_in (x ∷ xs) (suc i) d h = at_in xs i d (le_of_suc-le-suc h)

  pub at_out : (xs : List A) (i : ℕ) → length xs ≤ i → at xs i ≡ fault
  unfolding at
  at_out [] i h = refl
  at_out (x ∷ xs) zero h = absurd (not-suc-le-zero h)
  at_out (x ∷ xs) (suc i) h = at_out xs i (le_of_suc-le-suc h)

  -- a read that gives was in range, and what it gave is the entry there
  pub at_found : (xs : List A) (i : ℕ) {x : A} → at xs i ≡ ok x → i < length xs
  at_found xs i {x} e = (kept_ok (at xs i) x (kept_at xs i x) e).0

  pub at_value : (xs : List A) (i : ℕ) (d : A) {x : A} → at xs i ≡ ok x → x ≡ get_or xs i d
  at_value xs i d {x} e = (kept_ok (at xs i) x (kept_at xs i d) e).1

  pub put_in : (xs : List A) (i : ℕ) (v : A) → i < length xs → put xs i v ≡ ok (set xs i v)
  unfolding put
  put_in xs i v h = rw (lt-ltb i (length xs) h)

  pub put_out : (xs : List A) (i : ℕ) (v : A) → length xs ≤ i → put xs i v ≡ fault
  unfolding put
  put_out xs i v h = rw (le-ltb i (length xs) h)

  -- a store that faults is one outside the list
  pub put_fault : (xs : List A) (i : ℕ) (v : A) → put xs i v ≡ fault → length xs ≤ i
  put_fault xs i v e = go (ltb i (length xs)) (ltb→lt i (length xs)) (nltb→le i (length xs))
    where
      go : (t : Bool) → (T t → i < length xs) → (T (not t) → length xs ≤ i) → length xs ≤ i
      go true f g = not_ok (sym e ∙ put_in xs i v (f tt))
      go false f g = g tt

  -- a read whose answer is not used goes unnoticed before what faults where a store to that entry does
  pub at_unused : {B : Type 0} (xs : List A) (i : ℕ) (v : A) (r : Run B) → (put xs i v ≡ fault → r ≡ fault) → and_then (at xs i) (λ _. r) ≡ r
  at_unused xs i v r f = go (ltb i (length xs)) (ltb→lt i (length xs)) (nltb→le i (length xs))
    where
      go : (t : Bool) → (T t → i < length xs) → (T (not t) → length xs ≤ i) → and_then (at xs i) (λ _. r) ≡ r
      go true h g = rw (at_in xs i v (h tt))
      go false h g = rw (at_out xs i (g tt)) (sym (f (put_out xs i v (g tt))))

  -- ---- a window

  -- a store and a cut change places, wherever the store is
  pub take_set : (k : ℕ) (xs : List A) (i : ℕ) (v : A) → take k (set xs i v) ≡ set (take k xs) i v
  take_set zero xs i v = refl
  take_set (suc k) [] i v = refl
  take_set (suc k) (x ∷ xs) zero v = refl
  take_set (suc k) (x ∷ xs) (suc i) v = ap {B = List A} (λ r. x ∷ r) (take_set k xs i v)

  -- a part of a list that holds one entry throughout
  pub take_replicate : (k n : ℕ) (v : A) → k ≤ n → take k (replicate n v) ≡ replicate k v
  take_replicate zero n v h = refl
  take_replicate (suc k) zero v h = absurd (not-suc-le-zero h)
  take_replicate (suc k) (suc n) v h = ap {B = List A} (λ r. v ∷ r) (take_replicate k n v (le_of_suc-le-suc h))

  pub drop_replicate : (k n : ℕ) (v : A) → drop k (replicate (k + n) v) ≡ replicate n v
  drop_replicate zero n v = rw zero-add
  drop_replicate (suc k) n v = rw (suc-add k n) (drop_replicate k n v)

  -- the first k + j of a list whose first k were written anew, and which else holds one entry throughout
  pub take_written : (new : List A) (k j n : ℕ) (v : A) → length new ≡ k → k + j ≤ n
      → take (k + j) (new ++ drop k (replicate n v)) ≡ new ++ replicate j v
  take_written new k j n v e h =
      let m : n ≡ k + (n - k) = omega arith in
      let r : drop k (replicate n v) ≡ replicate (n - k) v = ap (λ (i : ℕ). drop k (replicate i v)) m ∙ drop_replicate k (n - k) v in
      rw (r, ← e)
      (take-append-add new (replicate (n - length new) v) j
      ∙ ap {B = List A} (λ t. new ++ t) (take_replicate j (n - length new) v (omega arith)))

  pub push_window_out : (xs : List A) (cap k : ℕ) (v : A) → cap ≤ k → cap ≤ length xs → push cap v (take k xs) ≡ fault
  unfolding push
  push_window_out xs cap k v h l =
      let e : cap ≤ length (take k xs) = rw (length-take k xs) (omega arith) in
      rw (le-ltb (length (take k xs)) cap e)

  -- ---- a copy, entry by entry

  pub copy_next : (from to : List A) (i : ℕ) (d : A) → i < length from → i < length to → take i to ≡ take i from
      → take (i + 1) (set to i (get_or from i d)) ≡ take (i + 1) from
  copy_next from to i d h l e = rw (add-one, take-suc-set to i (get_or from i d) l, take-suc from i d h, e)

  pub copy_end : (from to : List A) (i : ℕ) → length to ≡ length from → length from ≤ i → take i to ≡ take i from → to ≡ from
  copy_end from to i q h e =
      let l : length to ≤ i = omega arith in
      sym (take_all i to l) ∙ e ∙ take_all i from h

  -- ---- a list d that is written from the front: after i stores it is `take i new ++ drop i d`

  write_suc : (d new : List A) (i : ℕ) (z : A) → i < length d → i < length new
      → set (take i new ++ drop i d) i (get_or new i z) ≡ take (suc i) new ++ drop (suc i) d
  write_suc (y ∷ d) (x ∷ new) zero z h l = refl
  write_suc (y ∷ d) (x ∷ new) (suc i) z h l =
      ap {B = List A} (λ r. x ∷ r) (write_suc d new i z (le_of_suc-le-suc h) (le_of_suc-le-suc l))
  write_suc [] new i z h l = absurd (not-suc-le-zero h)
  write_suc (y ∷ d) [] i z h l = absurd (not-suc-le-zero l)

  pub write_more : (d new : List A) (i : ℕ) (z : A) → i < length d → i < length new
      → set (take i new ++ drop i d) i (get_or new i z) ≡ take (i + 1) new ++ drop (i + 1) d
  write_more d new i z h l = rw add-one (write_suc d new i z h l)

  pub write_all : (d new : List A) (i : ℕ) → length d ≤ i → length new ≤ i → take i new ++ drop i d ≡ new
  write_all d new i h l = rw (drop_of_length-le d {i = i} h, take_all i new l) (append-nil new)

  -- where every entry becomes v it is `replicate i v ++ drop i d`, and at the end v throughout
  pub fill_suc : (d : List A) (v : A) (i : ℕ) → i < length d → set (replicate i v ++ drop i d) i v ≡ replicate (suc i) v ++ drop (suc i) d
  fill_suc [] v i h = absurd (not-suc-le-zero h)
  fill_suc (x ∷ d) v zero h = refl
  fill_suc (x ∷ d) v (suc i) h = ap {B = List A} (λ r. v ∷ r) (fill_suc d v i (le_of_suc-le-suc h))

  pub fill_more : (d : List A) (v : A) (i : ℕ) → i < length d → set (replicate i v ++ drop i d) i v ≡ replicate (i + 1) v ++ drop (i + 1) d
  fill_more d v i h = rw add-one (fill_suc d v i h)

  pub fill_all : (d : List A) (v : A) (i : ℕ) → i ≡ length d → replicate i v ++ drop i d ≡ replicate (length d) v
  fill_all d v i e = let h : length d ≤ i = omega arith in rw (drop_of_length-le d {i = i} h, e) (append-nil (replicate (length d) v))
