use Rattle.std.proofs.Common.{rules, w64}
use mir.ValLaws.{to_z-of_z}
use Rattle.state.specs.Parts.{state_of}
use Rattle.stages.proofs.Looks.{looks_own}
use Rattle.stages.proofs.look.look_edge.Goals as goal

pub returns-then-k-d : goal.returns-then-k-d
returns-then-k-d c here v i o t =
    let a = c.args in
    let b = rw c.in-Some.is at t in
    rw (to_z-of_z w64 a.k c.ranges.k)
    (looks_own a.g.now i v a.met.node a.e a.met.group_label a.met.label a.k c.in-Some.d
    (state_of a.lists.now here) o c.if-met-eq1.true b (search rules) c.requires.slack c.requires.edge)
