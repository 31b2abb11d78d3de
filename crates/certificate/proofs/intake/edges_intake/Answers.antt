use Rattle.std.proofs.Common.{rules, pos, get_or, arith, w64}
use mir.ValLaws.{to_z-of_z}
use Rattle.certificate.proofs.IntakeLaws.{each_edge}
use Rattle.certificate.proofs.intake.edges_intake.Goals as goal

pub returns-in_err-edge_intake : goal.returns-in_err-edge_intake
returns-in_err-edge_intake c =
    let w = to_z-of_z w64 (get_or c.args.weight.now c.loop-e.e (pos 0)) (search rules) in grind (arith, each_edge, w)

pub loop-e-preserved : goal.loop-e-preserved
loop-e-preserved c =
    let w = to_z-of_z w64 (get_or c.args.weight.now c.loop-e.e (pos 0)) (search rules) in grind (arith, each_edge, w)
