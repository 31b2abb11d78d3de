use Rattle.std.proofs.Common.{w64}
use mir.ValLaws.{to_z-of_z}
use Rattle.state.proofs.lists.Lists.put_dual.Goals as goal

pub returns-clause-said : goal.returns-clause-said
returns-clause-said c at =
    rw (← c.self.view_is, ← to_z-of_z w64 c.args.d c.ranges.d) (c.set_dual.ensures.said c.self.inside.forest.lists c.self.inside.labelling.lists at)
