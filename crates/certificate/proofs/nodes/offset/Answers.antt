use Rattle.std.proofs.Common.{◌≡◌, ◌∙◌, Bool, true, false, cond, ℕ, ◌≤◌, zero-le, List, arith, rules, ℤ, pos, nat_abs, ◌-ℤ◌, take, w64, to_z, of_z}
use Rattle.std.specs.Int.{int_max}
use Rattle.std.specs.Prelude.{int_lt}
use borrow.Author.Tests.{not-true}
use mir.ValLaws.{to_z-of_z}
use Rattle.laws.specs.Integers.{greater, least}
use Rattle.laws.proofs.Integers.{abs_neg}
use Rattle.matching.specs.Certificate.{offset}
use Rattle.certificate.specs.Lists.{Near, bare}
use Rattle.certificate.proofs.SignedLaws.{least_near, duals_near, first_near, minus, near_fits}
use Rattle.certificate.proofs.nodes.offset.Goals as goal

module _ (n : ℕ) (duals : List ℤ) (d : Near n duals) (z : ℤ) (e : z ≡ least (take n duals)) where
  low_near : nat_abs z ≤ 4503599627370496
  low_near = rw e (least_near 4503599627370496 (take n duals) (duals_near n duals d))

  up_near : nat_abs (pos 0 -ℤ z) ≤ 4503599627370496
  up_near = rw (minus z) (omega (arith, abs_neg z, low_near))

  top_near : nat_abs (int_max (pos 0 -ℤ z) (pos 0)) ≤ 4503599627370496
  top_near = go (int_lt (pos 0) (pos 0 -ℤ z))
    where
      go : (t : Bool) → nat_abs (cond t (pos 0 -ℤ z) (pos 0)) ≤ 4503599627370496
      go true = up_near
      go false = zero-le

  top_is : (flag : Bool) → flag ≡ true → int_max (pos 0 -ℤ z) (pos 0) ≡ offset (bare n) flag duals
  unfolding offset greater
  top_is flag f = rw (f, ← e, minus z)

pub returns-then-not-flag : goal.returns-then-not-flag
unfolding offset
returns-then-not-flag c = (rw (not-true c.args.flag c.if-not-flag.true-raw), zero-le)

pub least-up-requires : goal.least-up-requires
least-up-requires c = first_near _ _ c.requires.1

pub overflow_sub-up : goal.overflow_sub-up
overflow_sub-up c =
    rw (to_z-of_z w64 c.least-up.result (near_fits _ (low_near _ _ c.requires.1 _ c.least-up.ensures)))
    (near_fits _ (up_near _ _ c.requires.1 _ c.least-up.ensures))

pub returns : goal.returns
returns c =
    let z = to_z-of_z w64 c.least-up.result (near_fits _ (low_near _ _ c.requires.1 _ c.least-up.ensures)) in
    let u = to_z-of_z w64 (pos 0 -ℤ c.least-up.result) (near_fits _ (up_near _ _ c.requires.1 _ c.least-up.ensures)) in
    let m : to_z w64 (of_z w64 c.max.result) ≡ int_max (pos 0 -ℤ c.least-up.result) (pos 0) =
    to_z-of_z w64 c.max.result (search rules) ∙ (rw (z, u) at c.max.ensures.value) in
    rw m (top_is _ _ c.requires.1 _ c.least-up.ensures _ c.if-not-flag.false, top_near _ _ c.requires.1 _ c.least-up.ensures)
