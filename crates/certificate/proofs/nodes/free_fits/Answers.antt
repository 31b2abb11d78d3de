use Rattle.std.proofs.Common.{◌≤◌, arith, eq-eqb, ne_eqb, ℤ, nat_abs, ◌+ℤ◌, w64, SFits}
use mir.ValLaws.{to_z-of_z}
use Rattle.laws.proofs.Integers.{abs_add, fits_near}
use Rattle.certificate.proofs.SignedLaws.{zero_bits}
use Rattle.certificate.proofs.nodes.free_fits.Goals as goal

together : (a b : ℤ) → nat_abs a ≤ 4503599627370496 → nat_abs b ≤ 4503599627370496 → SFits w64 (a +ℤ b)
together a b h l = fits_near (a +ℤ b) (omega (arith, abs_add a b))

pub overflow_add-result : goal.overflow_add-result
overflow_add-result c =
    rw (to_z-of_z w64 c.args.dual c.ranges.dual, to_z-of_z w64 c.args.o c.ranges.o) (together c.args.dual c.args.o c.requires.0 c.requires.1)
