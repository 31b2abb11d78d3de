-- Loops that go by places, in the form of an invariant: what is left, from here, gives the whole. And reads that no default reaches.
use mathlib.Core.Path.{◌≡◌, refl}
use mathlib.Core.Bool.{Bool, true, false, cond, ◌&&◌}
use mathlib.Core.List.{List, [], ◌∷◌, ◌++◌, append-nil}
use Prim.Native.Nat.{ℕ, zero, suc, ◌+◌, ◌-◌, ◌<◌, ◌≤◌}
use native.Mathlib.Nat.{le_of_suc-le-suc, not-suc-le-zero}
use native.Mathlib.Numerals.{add-one}
use native.Mathlib.Omega.{arith}
use lib.Dec.{T}
use lib.ListN.{length, get_or, drop, drop_of_length-le}
use lib.Seq.{drop-cons}
use Rattle.std.specs.List.{list_all, range_with_len}
use Rattle.laws.specs.Lists.{Each, all, keep, range, sum}

pub get_d_any : {A : Type 0} (l : List A) (i : ℕ) (d d' : A) → i < length l → get_or l i d ≡ get_or l i d'
get_d_any [] i d d' h = absurd (not-suc-le-zero h)
get_d_any (x ∷ xs) zero d d' h = refl
get_d_any (x ∷ xs) (suc i) d d' h = get_d_any xs i d d' (le_of_suc-le-suc h)

-- two tests that imply each other
pub same_test : (x y : Bool) → (T x → T y) → (T y → T x) → x ≡ y
same_test true true f g = refl
same_test true false f g = absurd (f tt)
same_test false true f g = absurd (g tt)
same_test false false f g = refl

pub is_true : {t : Bool} → T t → t ≡ true
is_true {t = true} h = refl
is_true {t = false} h = absurd h

pub of_true : {t : Bool} → t ≡ true → T t
of_true h = rw h tt

-- ---- the numbers from i up to an end

pub range_more : (i end : ℕ) → i < end → range i (end - i) ≡ i ∷ range (i + 1) (end - (i + 1))
unfolding range
range_more i end h = let e : end - i ≡ suc (end - (i + 1)) = omega arith in rw (e, add-one)

pub range_none : (i end : ℕ) → end ≤ i → range i (end - i) ≡ []
unfolding range
range_none i end h = let e : end - i ≡ 0 = omega arith in rw e

module _ (p : ℕ → Bool) {whole : Bool} (i end : ℕ) where
  pub all_next : i < end → p i ≡ true → all p (range i (end - i)) ≡ whole → all p (range (i + 1) (end - (i + 1))) ≡ whole
  unfolding all
  all_next h e w = rw (e) at (rw (range_more i end h) at w)

  pub all_stop : i < end → p i ≡ false → all p (range i (end - i)) ≡ whole → false ≡ whole
  unfolding all
  all_stop h e w = rw (e) at (rw (range_more i end h) at w)

  pub all_end : end ≤ i → all p (range i (end - i)) ≡ whole → true ≡ whole
  unfolding all
  all_end h w = rw (range_none i end h) at w

module _ (f : ℕ → ℕ) {whole : ℕ} (s i end : ℕ) where
  pub sum_next : i < end → s + sum (range i (end - i)) f ≡ whole → s + f i + sum (range (i + 1) (end - (i + 1))) f ≡ whole
  unfolding sum
  sum_next h w = omega (arith, rw (range_more i end h) at w)

  pub sum_end : end ≤ i → s + sum (range i (end - i)) f ≡ whole → s ≡ whole
  unfolding sum
  sum_end h w = omega (arith, rw (range_none i end h) at w)

-- the numbers that std's range gives
pub all_ranged : (p : ℕ → Bool) (a n : ℕ) → list_all p (range_with_len a n) ≡ all p (range a n)
unfolding all range
all_ranged p a zero = refl
all_ranged p a (suc n) = rw (add-one a, all_ranged p (suc a) n)

-- tests that agree on the numbers from s on
pub all_same : (p q : ℕ → Bool) (s c : ℕ) → ((i : ℕ) → s ≤ i → i < s + c → p i ≡ q i) → all p (range s c) ≡ all q (range s c)
unfolding all range
all_same p q s zero h = refl
all_same p q s (suc c) h = rw (h s (omega arith) (omega arith), all_same p q (suc s) c (λ i l m. h i (omega arith) (omega arith)))

pub keep_same : (p q : ℕ → Bool) (s c : ℕ) → ((i : ℕ) → s ≤ i → i < s + c → p i ≡ q i) → keep p (range s c) ≡ keep q (range s c)
unfolding keep range
keep_same p q s zero h = refl
keep_same p q s (suc c) h = rw (h s (omega arith) (omega arith), keep_same p q (suc s) c (λ i l m. h i (omega arith) (omega arith)))

-- one test after the other, over all
pub all_both : (p q : ℕ → Bool) (l : List ℕ) → all (λ i. p i && q i) l ≡ (all p l && all q l)
unfolding all
all_both p q [] = refl
all_both p q (x ∷ xs) = rw (all_both p q xs) (go (p x) (q x) (all p xs) (all q xs))
  where
    go : (a b c d : Bool) → (a && b && (c && d)) ≡ (a && c && (b && d))
    go true true c d = refl
    go true false true d = refl
    go true false false d = refl
    go false b c d = refl

-- ---- the entries of a list from place k on

module _ (f : ℕ → ℕ) {whole : ℕ} (s k : ℕ) (l : List ℕ) where
  pub entries_next : k < length l → s + sum (drop k l) f ≡ whole → s + f (get_or l k 0) + sum (drop (k + 1) l) f ≡ whole
  unfolding sum
  entries_next h w = rw add-one (omega (arith, rw (drop-cons l k 0 h) at w))

  pub entries_end : length l ≤ k → s + sum (drop k l) f ≡ whole → s ≡ whole
  unfolding sum
  entries_end h w = omega (arith, rw (drop_of_length-le l h) at w)

-- ---- the entries kept so far

module _ (p : ℕ → Bool) where
  keep_snoc : (s c : ℕ) → keep p (range s (suc c)) ≡ keep p (range s c) ++ cond (p (s + c)) ((s + c) ∷ []) []
  unfolding keep range
  keep_snoc s zero = rw (zero_add s)
    where
      zero_add : (s : ℕ) → s + 0 ≡ s
      zero_add s = omega arith
  keep_snoc s (suc c) =
      let e : s + suc c ≡ suc s + c = omega arith in
      rw (e, keep_snoc (suc s) c) (go (p s) (keep p (range (suc s) c)) (cond (p (suc s + c)) ((suc s + c) ∷ []) []))
    where
      go : (t : Bool) (a b : List ℕ) → cond t (s ∷ (a ++ b)) (a ++ b) ≡ cond t (s ∷ a) a ++ b
      go true a b = refl
      go false a b = refl

  pub keep_more : (c : ℕ) → p c ≡ true → keep p (range 0 (c + 1)) ≡ keep p (range 0 c) ++ (c ∷ [])
  keep_more c h = let e : 0 + c ≡ c = omega arith in rw (add-one, keep_snoc 0 c, e, h)

  pub keep_skip : (c : ℕ) → p c ≡ false → keep p (range 0 (c + 1)) ≡ keep p (range 0 c)
  keep_skip c h = let e : 0 + c ≡ c = omega arith in rw (add-one, keep_snoc 0 c, e, h) (append-nil (keep p (range 0 c)))

-- what holds at each place holds of each entry
pub each_get_or : {A : Type 0} (P : A → Type 0) (l : List A) (d : A) → ((i : ℕ) → i < length l → P (get_or l i d)) → Each P l
each_get_or P [] d f = tt
each_get_or P (x ∷ xs) d f = (f 0 (omega arith), each_get_or P xs d (λ i h. f (suc i) (omega arith)))
