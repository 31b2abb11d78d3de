-- A test that computes decides a fact: the test passes exactly where the fact holds. Tests put together decide facts put together.
use mathlib.Core.Path.{◌≡◌, refl, ap}
use mathlib.Core.Bool.{Bool, true, false, not, ◌&&◌, ◌||◌}
use mathlib.Core.Logic.{◌⊎◌, inl, inr, ⊎_elim}
use mathlib.Core.List.{List, [], ◌∷◌}
use Prim.Native.Nat.{ℕ, ◌+◌, ◌<◌, ◌≤◌, zero-le}
use native.Mathlib.Omega.{arith}
use lib.Dec.{T, eqb, leb, ltb, eqb→eq, leb→le, le→leb, ltb→lt, lt→ltb, T_not, not_T}
use lib.Ieee.Fits.{and_l, and_r, and_i, eq→eqb}
use lib.IntN.{ℤ, pos, negsuc, nat_abs}
use lib.Signed.{le_z, lt_z, le_z_yes, lt_z_yes, ◌≤ℤ◌, ◌<ℤ◌}
use Rattle.laws.specs.Integers.{is_zero}
use Rattle.laws.specs.Lists.{Each, range, all}
use Rattle.laws.proofs.Lists.{each_range, range_at}

-- ---- a test decides a fact

pub record Decides (P : Type 0) (b : Bool) : Type 0 where
  pub sound : T b → P
  pub complete : P → T b

-- the same fact said otherwise
pub said : {P Q : Type 0} {b : Bool} → (P → Q) → (Q → P) → Decides P b → Decides Q b
said f g d = record { sound = λ t. f (d.sound t); complete = λ q. d.complete (g q) }

pub both : {P Q : Type 0} {a b : Bool} → Decides P a → Decides Q b → Decides (P × Q) (a && b)
both {a} {b} d e = record {
  sound = λ t. (d.sound (and_l a b t), e.sound (and_r a b t));
  complete = λ h. and_i a b (d.complete h.0) (e.complete h.1);
}

pub either : {P Q : Type 0} {a b : Bool} → Decides P a → Decides Q b → Decides (P ⊎ Q) (a || b)
either {a = true} {b} d e = record { sound = λ t. inl (d.sound tt); complete = λ h. tt }
either {a = false} {b} d e = record { sound = λ t. inr (e.sound t); complete = λ h. ⊎_elim (λ p. absurd (d.complete p)) (λ q. e.complete q) h }

pub given : {P Q : Type 0} {a b : Bool} → Decides P a → Decides Q b → Decides (P → Q) (not a || b)
given {a = true} {b} d e = record { sound = λ t p. e.sound t; complete = λ f. e.complete (f (d.sound tt)) }
given {a = false} {b} d e = record { sound = λ t p. absurd (d.complete p); complete = λ f. tt }

pub refuted : {P : Type 0} {a : Bool} → Decides P a → Decides (P → ⊥) (not a)
refuted {a} d = record { sound = λ t p. T_not a t (d.complete p); complete = λ f. not_T a (λ t. f (d.sound t)) }

pub itself : (b : Bool) → Decides (T b) b
itself b = record { sound = λ t. t; complete = λ t. t }

pub equal : (m n : ℕ) → Decides (m ≡ n) (eqb m n)
equal m n = record { sound = eqb→eq m n; complete = eq→eqb }

pub at_most : (m n : ℕ) → Decides (m ≤ n) (leb m n)
at_most m n = record { sound = leb→le m n; complete = le→leb m n }

pub less : (m n : ℕ) → Decides (m < n) (ltb m n)
less m n = record { sound = ltb→lt m n; complete = lt→ltb m n }

pub at_mostℤ : (a b : ℤ) → Decides (a ≤ℤ b) (le_z a b)
at_mostℤ a b = record { sound = le_z_yes; complete = λ h. h.le }

pub lessℤ : (a b : ℤ) → Decides (a <ℤ b) (lt_z a b)
lessℤ a b = record { sound = lt_z_yes; complete = λ h. h.lt }

zero_size : (z : ℤ) → nat_abs z ≡ 0 → z ≡ pos 0
zero_size (pos n) e = ap pos e
zero_size (negsuc n) e = let no_way : ⊥ = omega arith in absurd no_way

pub nought : (z : ℤ) → Decides (z ≡ pos 0) (is_zero z)
nought z = said (zero_size z) (λ e. ap nat_abs e) (equal (nat_abs z) 0)

-- ---- a test of each number of a range

pub all_each : {A : Type 0} {P : A → Type 0} (p : A → Bool) → ((x : A) → Decides (P x) (p x)) → (l : List A) → Decides (Each P l) (all p l)
unfolding all
all_each p d [] = record { sound = λ t. tt; complete = λ h. tt }
all_each p d (x ∷ xs) = both (d x) (all_each p d xs)

pub in_range : {P : ℕ → Type 0} {p : ℕ → Bool} → ((i : ℕ) → Decides (P i) (p i)) → (s c : ℕ)
    → Decides ((i : ℕ) → s ≤ i → i < s + c → P i) (all p (range s c))
in_range {P} {p} d s c = said (λ h i l k. range_at P s c i h l k) (λ f. each_range s c f) (all_each p d (range s c))

pub below : {P : ℕ → Type 0} {p : ℕ → Bool} → ((i : ℕ) → Decides (P i) (p i)) → (c : ℕ) → Decides ((i : ℕ) → i < c → P i) (all p (range 0 c))
below d c = said (λ f i h. f i zero-le (omega arith)) (λ f i l h. f i (omega arith)) (in_range d 0 c)

-- what a decided test is, where the fact is known
pub passed : {P : Type 0} {t : Bool} → Decides P t → P → t ≡ true
passed {t = true} d p = refl
passed {t = false} d p = absurd (d.complete p)

pub failed : {P : Type 0} {t : Bool} → Decides P t → ¬ P → t ≡ false
failed {t = true} d n = absurd (n (d.sound tt))
failed {t = false} d n = refl
