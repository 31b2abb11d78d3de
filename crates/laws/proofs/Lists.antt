-- The laws of lists: what holds of each entry of a range or of a kept part; of finite sums: monotone, added, scaled, swapped, and one
-- number's share of a sum over a range.
use mathlib.Core.Path.{◌≡◌, refl, sym, ap, ◌∙◌}
use mathlib.Core.Bool.{Bool, true, false, cond}
use mathlib.Core.Logic.{◌≢◌, ◌⊎◌, inl, inr, ⊎_elim}
use mathlib.Core.List.{List, [], ◌∷◌, ◌++◌}
use Prim.Native.Nat.{ℕ, zero, suc, ◌+◌, ◌*◌, ◌<◌, ◌≤◌, zero-le}
use native.Mathlib.Nat.{eq-or-lt_of_le, le_refl}
use native.Mathlib.Omega.{arith}
use lib.Dec.{T, eqb, eqb→eq, eqb_refl}
use lib.IntN.{ℤ, nat_abs}
use lib.ListN.{length, get_or, replicate}
use Rattle.laws.specs.Lists.{Each, Some, EachPair, range, keep, sum, total}
use Rattle.laws.proofs.Integers.{abs_add, up, down, add_parts, pos_parts}

-- counting on by one: the first is one further, and one is left less
pub count_on : (from left : ℕ) → suc from + left ≡ from + suc left
count_on from left = omega arith

-- ---- each of a list

pub each : {A : Type 0} {P : A → Type 0} → ((x : A) → P x) → (l : List A) → Each P l
each f [] = tt
each f (x ∷ xs) = (f x, each f xs)

pub each_map : {A : Type 0} {P Q : A → Type 0} → ((x : A) → P x → Q x) → (l : List A) → Each P l → Each Q l
each_map f [] h = tt
each_map f (x ∷ xs) h = (f x h.0, each_map f xs h.1)

pub each_at : {A : Type 0} (P : A → Type 0) (l : List A) (i : ℕ) (d : A) → Each P l → i < length l → P (get_or l i d)
each_at P [] i d h k = let no_way : ⊥ = omega arith in absurd no_way
each_at P (x ∷ xs) zero d h k = h.0
each_at P (x ∷ xs) (suc i) d h k = each_at P xs i d h.1 (omega arith)

pub each_range : {P : ℕ → Type 0} (s c : ℕ) → ((i : ℕ) → s ≤ i → i < s + c → P i) → Each P (range s c)
unfolding range
each_range s zero f = tt
each_range s (suc c) f = (f s (omega arith) (omega arith), each_range (suc s) c (λ i l h. f i (omega arith) (omega arith)))

pub length_range : (s c : ℕ) → length (range s c) ≡ c
unfolding range
length_range s zero = refl
length_range s (suc c) = ap suc (length_range (suc s) c)

pub get_or_range : (s c i d : ℕ) → i < c → get_or (range s c) i d ≡ s + i
unfolding range
get_or_range s zero i d h = let no_way : ⊥ = omega arith in absurd no_way
get_or_range s (suc c) zero d h = omega arith
get_or_range s (suc c) (suc i) d h = omega (arith, get_or_range (suc s) c i d (omega arith))

pub range_at : (P : ℕ → Type 0) (s c i : ℕ) → Each P (range s c) → s ≤ i → i < s + c → P i
unfolding range
range_at P s zero i h l m = let no_way : ⊥ = omega arith in absurd no_way
range_at P s (suc c) i h l m = ⊎_elim (λ e. rw e at h.0) (λ (k : s < i). range_at P (suc s) c i h.1 k (omega arith)) (eq-or-lt_of_le l)

-- the passed test goes to what is shown of a kept entry
pub each_keep : {A : Type 0} {P Q : A → Type 0} (p : A → Bool) → ((x : A) → P x → T (p x) → Q x) → (l : List A) → Each P l → Each Q (keep p l)
unfolding keep
each_keep p f [] h = tt
each_keep {Q} p f (x ∷ xs) h = go (p x) (f x h.0) (each_keep p f xs h.1)
  where
    go : (c : Bool) → (T c → Q x) → Each Q (keep p xs) → Each Q (cond c (x ∷ keep p xs) (keep p xs))
    go true g r = (g tt, r)
    go false g r = r

-- tests that agree keep the same entries
pub keep_same : {A : Type 0} (p q : A → Bool) → ((x : A) → p x ≡ q x) → (l : List A) → keep p l ≡ keep q l
unfolding keep
keep_same p q h [] = refl
keep_same p q h (x ∷ xs) = rw (h x, keep_same p q h xs)

-- an entry that passes is kept
pub some_kept : (P : ℕ → Type 0) (p : ℕ → Bool) (e s c : ℕ) → P e → T (p e) → s ≤ e → e < s + c → Some P (keep p (range s c))
unfolding keep range
some_kept P p e s zero a t l h = let no_way : ⊥ = omega arith in absurd no_way
some_kept P p e s (suc c) a t l h = go (p s) (eq-or-lt_of_le l) (λ q. rw q t) (λ (k : s < e). some_kept P p e (suc s) c a t k (omega arith))
  where
    rest : List ℕ
    rest = keep p (range (suc s) c)

    go : (b : Bool) → (s ≡ e) ⊎ (s < e) → (s ≡ e → T b) → (s < e → Some P rest) → Some P (cond b (s ∷ rest) rest)
    go true (inl q) f g = inl (rw q a)
    go true (inr k) f g = inr (g k)
    go false (inl q) f g = absurd (f q)
    go false (inr k) f g = g k

-- what holds of any two entries of a range, the lower first, and of tests passed, holds of any two that are kept
pub pairs_kept : {R : ℕ → ℕ → Type 0} (p : ℕ → Bool) → ((e f : ℕ) → e < f → T (p e) → T (p f) → R e f) → (s c : ℕ) → EachPair R (keep p (range s c))
unfolding keep range
pairs_kept p f s zero = tt
pairs_kept {R} p f s (suc c) = go (p s) (λ t. each_keep p (λ g l u. f s g l t u) (range (suc s) c) (each_range (suc s) c (λ g l m. l)))
    (pairs_kept p f (suc s) c)
  where
    rest : List ℕ
    rest = keep p (range (suc s) c)

    go : (b : Bool) → (T b → Each (R s) rest) → EachPair R rest → EachPair R (cond b (s ∷ rest) rest)
    go true g r = (g tt, r)
    go false g r = r

-- a list padded with what stands for a missing entry reads the same
pub get_or_padded : {A : Type 0} (xs : List A) (k i : ℕ) (d : A) → get_or (xs ++ replicate k d) i d ≡ get_or xs i d
get_or_padded (x ∷ xs) k zero d = refl
get_or_padded (x ∷ xs) k (suc i) d = get_or_padded xs k i d
get_or_padded [] zero i d = refl
get_or_padded [] (suc k) zero d = refl
get_or_padded [] (suc k) (suc i) d = get_or_padded [] k i d

-- ---- sums

pub sum_le : {A : Type 0} (f g : A → ℕ) (l : List A) → Each (λ x. f x ≤ g x) l → sum l f ≤ sum l g
unfolding sum
sum_le f g [] h = zero-le
sum_le f g (x ∷ xs) h = omega (arith, h.0, sum_le f g xs h.1)

pub sum_zero : {A : Type 0} (f : A → ℕ) (l : List A) → Each (λ x. f x ≡ 0) l → sum l f ≡ 0
unfolding sum
sum_zero f [] h = refl
sum_zero f (x ∷ xs) h = omega (arith, h.0, sum_zero f xs h.1)

pub sum_same : {A : Type 0} (f g : A → ℕ) (l : List A) → Each (λ x. f x ≡ g x) l → sum l f ≡ sum l g
unfolding sum
sum_same f g [] h = refl
sum_same f g (x ∷ xs) h = omega (arith, h.0, sum_same f g xs h.1)

pub sum_add : {A : Type 0} (f g : A → ℕ) (l : List A) → sum l (λ x. f x + g x) ≡ sum l f + sum l g
unfolding sum
sum_add f g [] = refl
sum_add f g (x ∷ xs) = omega (arith, sum_add f g xs)

pub sum_times : {A : Type 0} (f : A → ℕ) (k : ℕ) (l : List A) → sum l (λ x. f x * k) ≡ sum l f * k
unfolding sum
sum_times f k [] = omega arith
sum_times f k (x ∷ xs) = omega (arith, sum_times f k xs)

-- a sum of sums, row by row or column by column
pub sum_swap : {A B : Type 0} (h : A → B → ℕ) (k : List A) (l : List B) → sum k (λ x. sum l (λ y. h x y)) ≡ sum l (λ y. sum k (λ x. h x y))
unfolding sum
sum_swap h [] l = sym (sum_zero (λ y. 0) l (each (λ y. refl) l))
sum_swap h (x ∷ xs) l = omega (arith, sum_swap h xs l, sum_add (λ y. h x y) (λ y. sum xs (λ z. h z y)) l)

-- a sum of integers, by the parts of its terms
pub total_parts : {A : Type 0} (f : A → ℤ) (l : List A) → up (total l f) + sum l (λ x. down (f x)) ≡ down (total l f) + sum l (λ x. up (f x))
unfolding sum total
total_parts f [] = omega (arith, pos_parts 0)
total_parts f (x ∷ xs) = omega (arith, add_parts (f x) (total xs f), total_parts f xs)

-- and by a bound on them
pub abs_total : {A : Type 0} (f : A → ℤ) (k : ℕ) (l : List A) → Each (λ x. nat_abs (f x) ≤ k) l → nat_abs (total l f) ≤ length l * k
unfolding total
abs_total f k [] h = zero-le
abs_total f k (x ∷ xs) h = omega (arith, abs_add (f x) (total xs f), h.0, abs_total f k xs h.1)

-- ---- one number's share of a sum over a range

-- f, but 0 at a
unfoldable pub without : ℕ → (ℕ → ℕ) → ℕ → ℕ
without a f v = cond (eqb v a) 0 (f v)

pub without_same : (a : ℕ) (f : ℕ → ℕ) → without a f a ≡ 0
unfolding without
without_same a f = go (eqb a a) (eqb_refl a)
  where
    go : (c : Bool) → T c → cond c 0 (f a) ≡ 0
    go true t = refl
    go false t = absurd t

pub without_other : (a : ℕ) (f : ℕ → ℕ) (v : ℕ) → v ≢ a → without a f v ≡ f v
unfolding without
without_other a f v d = go (eqb v a) (λ t. d (eqb→eq v a t))
  where
    go : (c : Bool) → (T c → ⊥) → cond c 0 (f v) ≡ f v
    go true n = absurd (n tt)
    go false n = refl

pub without_le : (a : ℕ) (f : ℕ → ℕ) (v : ℕ) → without a f v ≤ f v
unfolding without
without_le a f v = go (eqb v a)
  where
    go : (c : Bool) → cond c 0 (f v) ≤ f v
    go true = zero-le
    go false = le_refl (f v)

pub sum_without : (f : ℕ → ℕ) (s c a : ℕ) → s ≤ a → a < s + c → sum (range s c) f ≡ sum (range s c) (without a f) + f a
unfolding sum range
sum_without f s zero a l h = let no_way : ⊥ = omega arith in absurd no_way
sum_without f s (suc c) a l h = go (eq-or-lt_of_le l) (λ (k : s < a). sum_without f (suc s) c a k (omega arith))
  where
    go : (s ≡ a) ⊎ (s < a) → (s < a → sum (range (suc s) c) f ≡ sum (range (suc s) c) (without a f) + f a)
        → f s + sum (range (suc s) c) f ≡ without a f s + sum (range (suc s) c) (without a f) + f a
    go (inl e) ih =
        let same : without a f s ≡ 0 = ap (without a f) e ∙ without_same a f in
        let rest : sum (range (suc s) c) f ≤ sum (range (suc s) c) (without a f) =
        sum_le f (without a f) (range (suc s) c) (each_range (suc s) c (λ i k m. omega (arith, without_other a f i (omega arith)))) in
        let rest' : sum (range (suc s) c) (without a f) ≤ sum (range (suc s) c) f =
        sum_le (without a f) f (range (suc s) c) (each_range (suc s) c (λ i k m. without_le a f i)) in
        omega (arith, ap f e)
    go (inr k) ih = omega (arith, ih k, without_other a f s (omega arith))
