-- ℤ for `omega`, which reads only ℕ. Each z is `up z` - `down z`, and the laws below turn an order, an equation, a sum, a
-- negation and a double over ℤ into facts on those two naturals. With `parts` in its list `omega` reads and proves orders of ℤ:
-- give it one `add_parts x y` for each sum that stands in them. Below: distances from 0, what fits an i64, and the least of a list.
use mathlib.Core.Path.{◌≡◌, refl, ap}
use mathlib.Core.Bool.{Bool, true, false, not, cond}
use mathlib.Core.Logic.{◌⊎◌, inl, inr, ⊎_elim}
use mathlib.Core.List.{List, [], ◌∷◌}
use Prim.Native.Nat.{ℕ, zero, suc, ◌+◌, ◌*◌, ◌-◌, ◌^◌, ◌<◌, ◌≤◌, zero-le}
use native.Mathlib.Nat.{le_refl}
use native.Mathlib.Omega.{arith}
use lib.Dec.{T, ltb, leb→le, le→leb, ltb→lt, lt→ltb, nltb→le}
use lib.IntN.{ℤ, pos, negsuc, neg_ℤ, nat_abs, sub_ℕ, ◌+ℤ◌, ◌-ℤ◌, ◌*ℤ◌}
use lib.Signed.{le_z, lt_z, lt_z_yes, lt_z_no, mag, ◌≤ℤ◌, ◌<ℤ◌, ≤ℤ_refl}
use mir.Syntax.{w64}
use mir.Val.{SFits}
use Rattle.laws.specs.Integers.{lesser, greater, least_from, least}
use Rattle.laws.specs.Lists.{Each}

pub up : ℤ → ℕ
up (pos n) = n
up (negsuc n) = 0

pub down : ℤ → ℕ
down (pos n) = 0
down (negsuc n) = suc n

pub pos_parts : (n : ℕ) → (up (pos n) ≡ n) × (down (pos n) ≡ 0)
unfolding up down
pos_parts n = (refl, refl)

pub neg_parts : (a : ℤ) → (up (neg_ℤ a) ≡ down a) × (down (neg_ℤ a) ≡ up a)
unfolding up down
neg_parts (pos zero) = (refl, refl)
neg_parts (pos (suc n)) = (refl, refl)
neg_parts (negsuc n) = (refl, refl)

-- what holds of each of two numbers where a test picks it holds of the one picked
pub by_test : (c : Bool) (P : ℤ → Type 0) {x y : ℤ} → (T c → P x) → (T (not c) → P y) → P (cond c x y)
by_test true P f g = f tt
by_test false P f g = g tt

sub_parts : (a b : ℕ) → up (sub_ℕ a b) + b ≡ down (sub_ℕ a b) + a
unfolding up down
sub_parts a b = by_test (ltb a b) (λ z. up z + b ≡ down z + a) (λ t. below (ltb→lt a b t)) (λ t. above (nltb→le a b t))
  where
    below : a < b → 0 + b ≡ suc (b - suc a) + a
    below h = omega arith

    above : b ≤ a → a - b + b ≡ 0 + a
    above h = omega arith

pub add_parts : (a b : ℤ) → up (a +ℤ b) + (down a + down b) ≡ down (a +ℤ b) + (up a + up b)
unfolding up down
add_parts (pos a) (pos b) = omega arith
add_parts (pos a) (negsuc b) = omega (arith, sub_parts a (suc b))
add_parts (negsuc a) (pos b) = omega (arith, sub_parts b (suc a))
add_parts (negsuc a) (negsuc b) = omega arith

pub sub_of_parts : (a b : ℤ) → up (a -ℤ b) + (down a + up b) ≡ down (a -ℤ b) + (up a + down b)
sub_of_parts a b = omega (arith, add_parts a (neg_ℤ b), neg_parts b)

pub double_parts : (a : ℤ) → (up (pos 2 *ℤ a) ≡ 2 * up a) × (down (pos 2 *ℤ a) ≡ 2 * down a)
unfolding up down
double_parts (pos a) = (refl, refl)
double_parts (negsuc a) = neg_parts (pos (2 * suc a))

-- ---- orders and equations

pub le_parts : {a b : ℤ} → a ≤ℤ b → up a + down b ≤ up b + down a
unfolding up down
le_parts {a = pos a} {b = pos b} h = omega (arith, leb→le a b h.le)
le_parts {a = pos a} {b = negsuc b} h = absurd h.le
le_parts {a = negsuc a} {b = pos b} h = zero-le
le_parts {a = negsuc a} {b = negsuc b} h = omega (arith, leb→le b a h.le)

le_test : (a b : ℤ) → up a + down b ≤ up b + down a → T (le_z a b)
unfolding up down
le_test (pos a) (pos b) h = le→leb a b (omega arith)
le_test (pos a) (negsuc b) h = let no_way : ⊥ = omega arith in absurd no_way
le_test (negsuc a) (pos b) h = tt
le_test (negsuc a) (negsuc b) h = le→leb b a (omega arith)

pub parts_le : {a b : ℤ} → up a + down b ≤ up b + down a → a ≤ℤ b
parts_le {a} {b} h = record { le = le_test a b h }

pub lt_parts : {a b : ℤ} → a <ℤ b → up a + down b < up b + down a
unfolding up down
lt_parts {a = pos a} {b = pos b} h = omega (arith, ltb→lt a b h.lt)
lt_parts {a = pos a} {b = negsuc b} h = absurd h.lt
lt_parts {a = negsuc a} {b = pos b} h = omega arith
lt_parts {a = negsuc a} {b = negsuc b} h = omega (arith, ltb→lt b a h.lt)

lt_test : (a b : ℤ) → up a + down b < up b + down a → T (lt_z a b)
unfolding up down
lt_test (pos a) (pos b) h = lt→ltb a b (omega arith)
lt_test (pos a) (negsuc b) h = let no_way : ⊥ = omega arith in absurd no_way
lt_test (negsuc a) (pos b) h = tt
lt_test (negsuc a) (negsuc b) h = lt→ltb b a (omega arith)

pub parts_lt : {a b : ℤ} → up a + down b < up b + down a → a <ℤ b
parts_lt {a} {b} h = record { lt = lt_test a b h }

pub eq_parts : {a b : ℤ} → a ≡ b → up a + down b ≡ up b + down a
eq_parts {a} {b} e = omega (arith, ap up e, ap down e)

pub ruleset parts = (le_parts, parts_le, lt_parts, parts_lt, eq_parts)

-- a number that is 0 or more
pub nonneg_parts : {a : ℤ} → pos 0 ≤ℤ a → down a ≡ 0
unfolding down
nonneg_parts {a = pos n} h = refl
nonneg_parts {a = negsuc n} h = absurd h.le

-- the distance from 0
pub abs_parts : (a : ℤ) → nat_abs a ≡ up a + down a
unfolding up down
abs_parts (pos n) = omega arith
abs_parts (negsuc n) = omega arith

one_sided : (a : ℤ) → (up a ≡ 0) ⊎ (down a ≡ 0)
unfolding up down
one_sided (pos n) = inr refl
one_sided (negsuc n) = inl refl

pub abs_neg : (a : ℤ) → nat_abs (neg_ℤ a) ≡ nat_abs a
abs_neg a = omega (arith, abs_parts (neg_ℤ a), abs_parts a, neg_parts a)

pub abs_double : (a : ℤ) → nat_abs (pos 2 *ℤ a) ≡ 2 * nat_abs a
abs_double a = omega (arith, abs_parts (pos 2 *ℤ a), abs_parts a, double_parts a)

pub abs_add : (a b : ℤ) → nat_abs (a +ℤ b) ≤ nat_abs a + nat_abs b
abs_add a b = ⊎_elim (λ z. omega (arith, abs_parts (a +ℤ b), abs_parts a, abs_parts b, add_parts a b))
    (λ z. omega (arith, abs_parts (a +ℤ b), abs_parts a, abs_parts b, add_parts a b)) (one_sided (a +ℤ b))

-- a number less than 2^63 from 0 fits an i64
mag_abs : (z : ℤ) → mag z ≤ nat_abs z
mag_abs (pos n) = le_refl n
mag_abs (negsuc n) = omega arith

pub fits_near : (z : ℤ) → nat_abs z < 2 ^ 63 → SFits w64 z
fits_near z h = record { sfits = omega (arith, mag_abs z, h) }

-- ---- the lesser, the greater, the least

pub lesser_le : (a b : ℤ) → (lesser a b ≤ℤ a) × (lesser a b ≤ℤ b)
unfolding lesser
lesser_le a b = by_test (lt_z b a) (λ z. (z ≤ℤ a) × (z ≤ℤ b)) (λ t. below (lt_z_yes t)) (λ t. above (lt_z_no t))
  where
    below : b <ℤ a → (b ≤ℤ a) × (b ≤ℤ b)
    below h = omega (arith, parts)

    above : a ≤ℤ b → (a ≤ℤ a) × (a ≤ℤ b)
    above h = omega (arith, parts)

pub greater_ge : (a b : ℤ) → (a ≤ℤ greater a b) × (b ≤ℤ greater a b)
unfolding greater
greater_ge a b = by_test (lt_z a b) (λ z. (a ≤ℤ z) × (b ≤ℤ z)) (λ t. below (lt_z_yes t)) (λ t. above (lt_z_no t))
  where
    below : a <ℤ b → (a ≤ℤ b) × (b ≤ℤ b)
    below h = omega (arith, parts)

    above : b ≤ℤ a → (a ≤ℤ a) × (b ≤ℤ a)
    above h = omega (arith, parts)

-- as near to zero as both are
pub lesser_near : (k : ℕ) (a b : ℤ) → nat_abs a ≤ k → nat_abs b ≤ k → nat_abs (lesser a b) ≤ k
unfolding lesser
lesser_near k a b h l = by_test (lt_z b a) (λ z. nat_abs z ≤ k) (λ t. l) (λ t. h)

pub greater_near : (k : ℕ) (a b : ℤ) → nat_abs a ≤ k → nat_abs b ≤ k → nat_abs (greater a b) ≤ k
unfolding greater
greater_near k a b h l = by_test (lt_z a b) (λ z. nat_abs z ≤ k) (λ t. l) (λ t. h)

pub least_from_near : (k : ℕ) (a : ℤ) (l : List ℤ) → nat_abs a ≤ k → Each (λ z. nat_abs z ≤ k) l → nat_abs (least_from a l) ≤ k
unfolding least_from
least_from_near k a [] h e = h
least_from_near k a (b ∷ bs) h e = least_from_near k (lesser a b) bs (lesser_near k a b h e.0) e.1

least_from_le : (a : ℤ) (l : List ℤ) → (least_from a l ≤ℤ a) × Each (λ b. least_from a l ≤ℤ b) l
unfolding least_from
least_from_le a [] = (≤ℤ_refl a, tt)
least_from_le a (b ∷ bs) =
    let (h, r) = least_from_le (lesser a b) bs in
    (omega (arith, parts, lesser_le a b), (omega (arith, parts, lesser_le a b), r))

pub least_le : (l : List ℤ) → Each (λ b. least l ≤ℤ b) l
unfolding least
least_le [] = tt
least_le (a ∷ l) = least_from_le a l
