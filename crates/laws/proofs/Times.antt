-- The laws of `times`: how often a number stands in a list put together, turned round or counted up; and of two numbers, equal or not.
use mathlib.Core.Path.{◌≡◌, refl, ap}
use mathlib.Core.Bool.{Bool, true, false, not, ◌||◌}
use mathlib.Core.Logic.{◌≢◌, ◌⊎◌, inl, inr, ⊎_elim}
use mathlib.Core.List.{List, [], ◌∷◌, ◌++◌, reverse, reverse_aux}
use Prim.Native.Nat.{ℕ, zero, suc, ◌+◌, ◌<◌, ◌≤◌, zero-le}
use native.Mathlib.Nat.{lt_of_not-le, zero-add, add-zero, suc-add, add-suc}
use native.Mathlib.Decide.{dec_le}
use native.Mathlib.Omega.{arith}
use lib.Dec.{T, eqb, eqb→eq}
use lib.Ieee.Fits.{eq→eqb}
use lib.ListN.{length, get_or, take, drop, take-append-drop, length-append}
use Rattle.laws.specs.Lists.{Each, range, bit, sum, member, repeats}
use Rattle.laws.specs.Times.{times}
use Rattle.laws.proofs.Lists.{sum_add, sum_zero, sum_le, each}

-- ---- two numbers

pub same_or_not : (x y : ℕ) → (x ≡ y) ⊎ (x ≢ y)
same_or_not x y = go (eqb x y) (eqb→eq x y) (λ e. eq→eqb e)
  where
    go : (c : Bool) → (T c → x ≡ y) → (x ≡ y → T c) → (x ≡ y) ⊎ (x ≢ y)
    go true f g = inl (f tt)
    go false f g = inr (λ e. g e)

pub less_or_not : (x y : ℕ) → (x < y) ⊎ (y ≤ x)
less_or_not x y = elim (dec_le y x) [ yes l ↦ inr l | no f ↦ inl (lt_of_not-le f) ]

pub none_or_some : (k : ℕ) → (k ≡ 0) ⊎ (0 < k)
none_or_some zero = inl refl
none_or_some (suc k) = inr (omega arith)

pub bit_same : (y x : ℕ) → y ≡ x → bit (eqb y x) ≡ 1
bit_same y x e = go (eqb y x) (eq→eqb e)
  where
    go : (c : Bool) → T c → bit c ≡ 1
    go true t = refl
    go false t = absurd t

pub bit_other : (y x : ℕ) → y ≢ x → bit (eqb y x) ≡ 0
bit_other y x d = go (eqb y x) (λ t. d (eqb→eq y x t))
  where
    go : (c : Bool) → (T c → ⊥) → bit c ≡ 0
    go true f = absurd (f tt)
    go false f = refl

pub bit_le : (c : Bool) → bit c ≤ 1
bit_le true = omega arith
bit_le false = omega arith

-- ---- one entry more

pub times_nil : (x : ℕ) → times x [] ≡ 0
unfolding times
times_nil x = refl

pub times_cons : (x y : ℕ) (ys : List ℕ) → times x (y ∷ ys) ≡ bit (eqb y x) + times x ys
unfolding times
times_cons x y ys = refl

pub times_here : (x : ℕ) (ys : List ℕ) → times x (x ∷ ys) ≡ suc (times x ys)
times_here x ys = omega (arith, times_cons x x ys, bit_same x x refl)

pub times_later : (x y : ℕ) (ys : List ℕ) → y ≢ x → times x (y ∷ ys) ≡ times x ys
times_later x y ys d = omega (arith, times_cons x y ys, bit_other y x d)

-- ---- put together

pub times_append : (x : ℕ) (ys zs : List ℕ) → times x (ys ++ zs) ≡ times x ys + times x zs
unfolding times
times_append x [] zs = omega arith
times_append x (y ∷ ys) zs = omega (arith, times_append x ys zs)

pub times_turned : (x i : ℕ) (xs : List ℕ) → times x (drop i xs ++ take i xs) ≡ times x xs
times_turned x i xs =
    omega (arith, times_append x (drop i xs) (take i xs), times_append x (take i xs) (drop i xs), ap (times x) (take-append-drop i xs))

pub length_turned : (i : ℕ) (xs : List ℕ) → length (drop i xs ++ take i xs) ≡ length xs
length_turned i xs =
    omega (arith, length-append (drop i xs) (take i xs), length-append (take i xs) (drop i xs), ap {B = ℕ} length (take-append-drop i xs))

pub times_snoc : (x y : ℕ) (ys : List ℕ) → times x (ys ++ (y ∷ [])) ≡ times x ys + bit (eqb y x)
times_snoc x y ys = omega (arith, times_append x ys (y ∷ []), times_cons x y [], times_nil x)

-- ---- each entry

pub times_each : (P : ℕ → Type 0) (xs : List ℕ) (x : ℕ) → Each P xs → 0 < times x xs → P x
unfolding times
times_each P [] x h k = let no_way : ⊥ = omega arith in absurd no_way
times_each P (y ∷ ys) x h k = ⊎_elim (λ e. rw e at h.0) (λ d. times_each P ys x h.1 (omega (arith, bit_other y x d))) (same_or_not y x)

pub each_times : (P : ℕ → Type 0) (xs : List ℕ) → ((x : ℕ) → 0 < times x xs → P x) → Each P xs
each_times P [] f = tt
each_times P (y ∷ ys) f =
    (f y (omega (arith, times_here y ys)), each_times P ys (λ x h. f x (omega (arith, times_cons x y ys))))

pub each_append : {A : Type 0} (P : A → Type 0) (xs ys : List A) → Each P xs → Each P ys → Each P (xs ++ ys)
each_append P [] ys h k = k
each_append P (x ∷ xs) ys h k = (h.0, each_append P xs ys h.1 k)

each_reverse_aux : {A : Type 0} (P : A → Type 0) (xs ys : List A) → Each P xs → Each P ys → Each P (reverse_aux xs ys)
each_reverse_aux P [] ys h k = k
each_reverse_aux P (x ∷ xs) ys h k = each_reverse_aux P xs (x ∷ ys) h.1 (h.0, k)

pub each_reverse : {A : Type 0} (P : A → Type 0) (xs : List A) → Each P xs → Each P (reverse xs)
each_reverse P xs h = each_reverse_aux P xs [] h tt

pub times_at : (xs : List ℕ) (i d : ℕ) → i < length xs → 0 < times (get_or xs i d) xs
times_at [] i d h = let no_way : ⊥ = omega arith in absurd no_way
times_at (x ∷ xs) zero d h = omega (arith, times_here x xs)
times_at (x ∷ xs) (suc i) d h = omega (arith, times_at xs i d (omega arith), times_cons (get_or xs i d) x xs)

-- ---- the tests

not_or : (a b : Bool) → T (not (a || b)) → T (not a) × T (not b)
not_or true b t = absurd t
not_or false b t = (tt, t)

pub times_member : (x : ℕ) (ys : List ℕ) → T (not (member x ys)) → times x ys ≡ 0
unfolding times member
times_member x [] t = refl
times_member x (y ∷ ys) t = go (eqb y x) (not_or (eqb y x) (member x ys) t) (times_member x ys)
  where
    go : (c : Bool) → T (not c) × T (not (member x ys)) → (T (not (member x ys)) → times x ys ≡ 0) → bit c + times x ys ≡ 0
    go true p f = absurd p.0
    go false p f = omega (arith, f p.1)

pub times_once : (ys : List ℕ) → T (not (repeats ys)) → (x : ℕ) → times x ys ≤ 1
unfolding times repeats
times_once [] t x = omega arith
times_once (y ∷ ys) t x =
    let (a, b) = not_or (member y ys) (repeats ys) t in
    ⊎_elim (λ e. omega (arith, bit_same y x e, ap (λ z. times z ys) e, times_member y ys a)) (λ d. omega (arith, bit_other y x d, times_once ys b x))
    (same_or_not y x)

-- ---- counted up over a range

no_share : (y s c : ℕ) → y < s → sum (range s c) (λ x. bit (eqb y x)) ≡ 0
unfolding sum range
no_share y s zero h = refl
no_share y s (suc c) h = omega (arith, bit_other y s (omega arith), no_share y (suc s) c (omega arith))

pub one_share : (y s c : ℕ) → s ≤ y → y < s + c → sum (range s c) (λ x. bit (eqb y x)) ≡ 1
unfolding sum range
one_share y s zero l h = let no_way : ⊥ = omega arith in absurd no_way
one_share y s (suc c) l h = ⊎_elim
    (λ e. omega (arith, bit_same y s e, no_share y (suc s) c (omega arith)))
    (λ d. omega (arith, bit_other y s d, one_share y (suc s) c (omega arith) (omega arith)))
    (same_or_not y s)

pub share_le : (y s c : ℕ) → sum (range s c) (λ x. bit (eqb y x)) ≤ 1
unfolding sum range
share_le y s zero = omega arith
share_le y s (suc c) = ⊎_elim
    (λ e. omega (arith, bit_same y s e, no_share y (suc s) c (omega arith)))
    (λ d. omega (arith, bit_other y s d, share_le y (suc s) c))
    (same_or_not y s)

pub times_total : (N : ℕ) (xs : List ℕ) → Each (λ x. x < N) xs → sum (range 0 N) (λ x. times x xs) ≡ length xs
unfolding times
times_total N [] h = sum_zero (λ x. 0) (range 0 N) (each (λ x. refl) (range 0 N))
times_total N (y ∷ ys) h =
    omega (arith, sum_add (λ x. bit (eqb y x)) (λ x. times x ys) (range 0 N), one_share y 0 N zero-le (omega (arith, h.0)), times_total N ys h.1)

times_total_le : (N : ℕ) (xs : List ℕ) → sum (range 0 N) (λ x. times x xs) ≤ length xs
unfolding times
times_total_le N [] = omega (arith, sum_zero (λ x. 0) (range 0 N) (each (λ x. refl) (range 0 N)))
times_total_le N (y ∷ ys) = omega (arith, sum_add (λ x. bit (eqb y x)) (λ x. times x ys) (range 0 N), share_le y 0 N, times_total_le N ys)

-- a list that holds no number more often than another is no longer
pub no_longer : (N : ℕ) (xs ys : List ℕ) → Each (λ x. x < N) xs → ((x : ℕ) → times x xs ≤ times x ys) → length xs ≤ length ys
no_longer N xs ys h le =
    omega (arith, times_total N xs h, times_total_le N ys, sum_le (λ x. times x xs) (λ x. times x ys) (range 0 N) (each le (range 0 N)))

-- ---- sums over a range

pub sum_split : (f : ℕ → ℕ) (s a b : ℕ) → sum (range s (a + b)) f ≡ sum (range s a) f + sum (range (s + a) b) f
unfolding sum range
sum_split f s zero b = rw (zero-add b, add-zero) (omega arith)
sum_split f s (suc a) b = rw (suc-add a b, add-suc) (omega (arith, sum_split f (suc s) a b, ap (λ z. sum (range z b) f) (suc-add s a)))

pub sum_ones : (f : ℕ → ℕ) (l : List ℕ) → ((x : ℕ) → f x ≤ 1) → sum l f ≤ length l
unfolding sum
sum_ones f [] h = zero-le
sum_ones f (x ∷ xs) h = omega (arith, h x, sum_ones f xs h)

pub sum_some : (f : ℕ → ℕ) (l : List ℕ) → Each (λ x. 1 ≤ f x) l → length l ≤ sum l f
unfolding sum
sum_some f [] h = zero-le
sum_some f (x ∷ xs) h = omega (arith, h.0, sum_some f xs h.1)

-- ---- a range holds each of its numbers once

pub range_times : (x s c : ℕ) → 0 < times x (range s c) → (s ≤ x) × (x < s + c)
unfolding times range
range_times x s zero h = let no_way : ⊥ = omega arith in absurd no_way
range_times x s (suc c) h = ⊎_elim
    (λ e. (omega arith, omega arith))
    (λ d. let (l, k) = range_times x (suc s) c (omega (arith, bit_other s x d)) in (omega arith, omega arith))
    (same_or_not s x)

pub times_range : (x s c : ℕ) → s ≤ x → x < s + c → times x (range s c) ≡ 1
unfolding times range
times_range x s zero l h = let no_way : ⊥ = omega arith in absurd no_way
times_range x s (suc c) l h = ⊎_elim
    (λ e. omega (arith, bit_same s x e, past e (none_or_some (times x (range (suc s) c)))))
    (λ d. omega (arith, bit_other s x d, times_range x (suc s) c (omega arith) (omega arith)))
    (same_or_not s x)
  where
    past : s ≡ x → (times x (range (suc s) c) ≡ 0) ⊎ (0 < times x (range (suc s) c)) → times x (range (suc s) c) ≡ 0
    past e (inl z) = z
    past e (inr k) = let no_way : ⊥ = omega (arith, range_times x (suc s) c k) in absurd no_way

pub range_first : (s c : ℕ) → 1 ≤ c → (l : List ℕ) × (range s c ≡ s ∷ l)
unfolding range
range_first s zero h = let no_way : ⊥ = omega arith in absurd no_way
range_first s (suc c) h = (range (suc s) c, refl)
