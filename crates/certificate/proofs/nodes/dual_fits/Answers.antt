use Rattle.std.proofs.Common.{◌≡◌, refl, Bool, true, false, not, ◌&&◌, ◌||◌, ℕ, ◌≤◌, ◌<◌, le-leb, ℤ, pos, nat_abs, w64}
use borrow.Author.Tests.{lt-leb}
use lib.Signed.{le_z}
use mir.ValLaws.{to_z-of_z}
use Rattle.certificate.specs.Lists.{dual_fits}
use Rattle.certificate.proofs.SignedLaws.{far_up, far_down, near}
use Rattle.certificate.proofs.nodes.dual_fits.Goals as goal

module _ (n : ℕ) (flag : Bool) (i : ℕ) (d : ℤ) where
  too_far : 4503599627370496 < nat_abs d → false ≡ dual_fits n flag i d
  unfolding dual_fits
  too_far h = rw (lt-leb (nat_abs d) 4503599627370496 h)

  of_group : nat_abs d ≤ 4503599627370496 → n ≤ i → le_z (pos 0) d ≡ dual_fits n flag i d
  unfolding dual_fits
  of_group h l = rw (le-leb (nat_abs d) 4503599627370496 h, le-leb n i l) (go flag (le_z (pos 0) d))
    where
      go : (f t : Bool) → t ≡ (t && (not (not f) || t))
      go true true = refl
      go true false = refl
      go false true = refl
      go false false = refl

  of_node : nat_abs d ≤ 4503599627370496 → i < n → flag ≡ true → true ≡ dual_fits n flag i d
  unfolding dual_fits
  of_node h l f = rw (le-leb (nat_abs d) 4503599627370496 h, lt-leb n i l, f)

  of_plain : nat_abs d ≤ 4503599627370496 → i < n → flag ≡ false → le_z (pos 0) d ≡ dual_fits n flag i d
  unfolding dual_fits
  of_plain h l f = rw (le-leb (nat_abs d) 4503599627370496 h, lt-leb n i l, f)

pub returns-then-d-gt-MAX_DUAL : goal.returns-then-d-gt-MAX_DUAL
returns-then-d-gt-MAX_DUAL c =
    too_far _ _ _ _ (far_up 4503599627370496 c.args.d (rw (to_z-of_z w64 c.args.d c.ranges.d) at c.if-d-gt-MAX_DUAL.true))

pub returns-then-d : goal.returns-then-d
returns-then-d c =
    too_far _ _ _ _ (far_down 4503599627370495 c.args.d (rw (to_z-of_z w64 c.args.d c.ranges.d) at c.if-d.true))

pub returns-then-n-i : goal.returns-then-n-i
returns-then-n-i c =
    let e = to_z-of_z w64 c.args.d c.ranges.d in
    rw e (of_group _ _ _ _ (near 4503599627370495 c.args.d (rw e at c.if-d-gt-MAX_DUAL.false) (rw e at c.if-d.false)) c.if-n-i.true)

pub returns-then-flag : goal.returns-then-flag
returns-then-flag c =
    let e = to_z-of_z w64 c.args.d c.ranges.d in
    of_node _ _ _ _ (near 4503599627370495 c.args.d (rw e at c.if-d-gt-MAX_DUAL.false) (rw e at c.if-d.false)) c.if-n-i.false c.if-flag.true

pub returns : goal.returns
returns c =
    let e = to_z-of_z w64 c.args.d c.ranges.d in
    rw e (of_plain _ _ _ _ (near 4503599627370495 c.args.d (rw e at c.if-d-gt-MAX_DUAL.false) (rw e at c.if-d.false)) c.if-n-i.false c.if-flag.false)
