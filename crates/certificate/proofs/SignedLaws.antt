-- Signed tests of the code, as tests of a distance from zero.
use mathlib.Core.Path.{◌≡◌, refl, sym, subst, ◌∙◌}
use mathlib.Core.Bool.{Bool, true, false, cond}
use mathlib.Core.Logic.{⊎_elim}
use mathlib.Core.List.{List, [], ◌∷◌}
use Prim.Native.Nat.{ℕ, suc, ◌+◌, ◌<◌, ◌≤◌, zero-le}
use native.Mathlib.Nat.{not-suc-le-zero}
use native.Mathlib.Numerals.{add-one}
use native.Mathlib.Omega.{arith}
use borrow.Author.Tests.{ltb-true, ltb-false, leb-true, leb-false, ne_eqb, lt-ltb, le-ltb, le-leb}
use lib.Dec.{T, eqb}
use lib.IntN.{ℤ, pos, negsuc, neg_ℤ, nat_abs, ◌-ℤ◌, +ℤ_idl}
use lib.ListN.{length, get_or, take, drop, length-take, drop_of_length-le, get_or-eq_default}
use lib.Seq.{drop-cons, get_or-take}
use lib.Signed.{lt_z, le_z}
use mir.Syntax.{w64}
use mir.Val.{SFits, of_z}
use Rattle.laws.specs.Integers.{is_zero, lesser, least_from, least}
use Rattle.laws.specs.Lists.{Each}
use Rattle.laws.proofs.Integers.{fits_near, least_from_near}
use Rattle.numbers.specs.Near.{Near as AllNear}
use Rattle.certificate.specs.Lists.{Near}
use Rattle.laws.proofs.Loops.{each_get_or}
use Rattle.laws.proofs.Times.{less_or_not}

never : {B : Type 0} → false ≡ true → B
never e = absurd (subst T (sym e) tt)

pub far_up : (k : ℕ) (z : ℤ) → lt_z (pos k) z ≡ true → k < nat_abs z
far_up k (pos n) h = ltb-true k n h
far_up k (negsuc n) h = never h

pub far_down : (k : ℕ) (z : ℤ) → lt_z z (negsuc k) ≡ true → suc k < nat_abs z
far_down k (pos n) h = never h
far_down k (negsuc n) h = omega (arith, ltb-true k n h)

pub near : (k : ℕ) (z : ℤ) → lt_z (pos (suc k)) z ≡ false → lt_z z (negsuc k) ≡ false → nat_abs z ≤ suc k
near k (pos n) g h = ltb-false (suc k) n g
near k (negsuc n) g h = omega (arith, ltb-false k n h)

pub zero_bits : (z : ℤ) → SFits w64 z → eqb (of_z w64 z) 0 ≡ is_zero z
zero_bits (pos n) f = refl
zero_bits (negsuc n) f = ne_eqb (of_z w64 (negsuc n)) 0 (λ e. omega (arith, f.sfits)) ∙ sym (ne_eqb (suc n) 0 (λ e. omega arith))

-- ---- the least of a list, entry by entry

lesser_same : (z : ℤ) → lesser z z ≡ z
unfolding lesser
lesser_same z = by (lt_z z z)
  where
    by : (t : Bool) → cond t z z ≡ z
    by true = refl
    by false = refl

-- the first entry may be looked at twice
pub least_twice : (l : List ℤ) → 0 < length l → least_from (get_or l 0 (pos 0)) l ≡ least l
unfolding least_from least
least_twice [] h = absurd (not-suc-le-zero h)
least_twice (z ∷ zs) h = rw (lesser_same z)

module _ (l : List ℤ) {whole : ℤ} (z : ℤ) (v : ℕ) where
  pub least_next : v < length l → least_from z (drop v l) ≡ whole → least_from (lesser z (get_or l v (pos 0))) (drop (v + 1) l) ≡ whole
  unfolding least_from
  least_next h w = rw (add-one v) (rw (drop-cons l v (pos 0) h) at w)

  pub least_end : length l ≤ v → least_from z (drop v l) ≡ whole → z ≡ whole
  unfolding least_from
  least_end h w = rw (drop_of_length-le l {i = v} h) at w

-- it is as near to zero as all are
pub least_near : (k : ℕ) (l : List ℤ) → Each (λ z. nat_abs z ≤ k) l → nat_abs (least l) ≤ k
unfolding least
least_near k [] e = zero-le
least_near k (a ∷ bs) e = least_from_near k a bs e.0 e.1

-- the first n duals
pub duals_near : (n : ℕ) (duals : List ℤ) → Near n duals → Each (λ z. nat_abs z ≤ 4503599627370496) (take n duals)
duals_near n duals d = each_get_or (λ z. nat_abs z ≤ 4503599627370496) (take n duals) (pos 0)
    (λ i h. subst (λ (z : ℤ). nat_abs z ≤ 4503599627370496) (sym (get_or-take n duals i (pos 0) (omega (arith, length-take n duals))))
    (d.is_small i (omega (arith, length-take n duals))))

-- and one by one
pub first_near : (n : ℕ) (duals : List ℤ) → Near n duals → AllNear 4503599627370496 (take n duals)
first_near n duals d = record { near = one }
  where
    one : (i : ℕ) → nat_abs (get_or (take n duals) i (pos 0)) ≤ 4503599627370496
    one i = ⊎_elim (λ h. rw (get_or-take n duals i (pos 0) h) (d.is_small i (omega arith)))
        (λ h. rw (get_or-eq_default (take n duals) (pos 0) {n = i} (omega (arith, length-take n duals))) zero-le) (less_or_not i n)

-- minus a number
pub minus : (z : ℤ) → pos 0 -ℤ z ≡ neg_ℤ z
minus z = +ℤ_idl (neg_ℤ z)

pub near_fits : (z : ℤ) → nat_abs z ≤ 4503599627370496 → SFits w64 z
near_fits z h = fits_near z (omega arith)

-- 0 or less, and above 0
pub at_most_zero : (z : ℤ) → le_z z (pos 0) ≡ true → lt_z (pos 0) z ≡ false
at_most_zero (pos n) h = le-ltb 0 n (leb-true n 0 h)
at_most_zero (negsuc n) h = refl

pub above_zero : (z : ℤ) → le_z z (pos 0) ≡ false → lt_z (pos 0) z ≡ true
above_zero (pos n) h = lt-ltb 0 n (leb-false n 0 h)
above_zero (negsuc n) h = never (sym h)

pub below_zero : (z : ℤ) → lt_z z (pos 0) ≡ true → le_z (pos 0) z ≡ false
below_zero (pos n) h = let no_way : ⊥ = omega (arith, ltb-true n 0 h) in absurd no_way
below_zero (negsuc n) h = refl

pub from_zero : (z : ℤ) → lt_z z (pos 0) ≡ false → le_z (pos 0) z ≡ true
from_zero (pos n) h = le-leb 0 n zero-le
from_zero (negsuc n) h = never (sym h)
