use Rattle.std.proofs.Common.{sym, ◌∙◌, pos, get_or, w64}
use mir.ValLaws.{to_z-of_z}
use Rattle.certificate.proofs.ListLaws.{dual_test_lem}
use Rattle.certificate.proofs.nodes.dual_test.Goals as goal

pub returns : goal.returns
returns c =
    let e = to_z-of_z w64 (get_or c.args.duals.now c.args.i (pos 0)) (record { sfits = c.dual_fits-arg-1.given }) in
    (rw e at c.dual_fits.ensures) ∙ sym (dual_test_lem c.args.n c.args.flag c.args.duals.now c.args.i)
