use Rattle.std.proofs.Common.{arith}
use Rattle.edges.proofs.Counts.{sum_le}
use Rattle.edges.proofs.Table.{offsets_are, far_is}
use Rattle.edges.proofs.neighbours.neighbours.Goals as goal

pub sum_up-requires-clause-few : goal.sum_up-requires-clause-few
sum_up-requires-clause-few c =
    let l = c.count_ends in omega (arith, sum_le c.args.n c.args.ends.now l.new.counts l.ensures, c.requires)

pub returns-clause-begins : goal.returns-clause-begins
returns-clause-begins c =
    offsets_are c.args.n c.args.ends.now _ _ _ c.place_ends.ensures.begun (omega (arith, c.requires, c.count_ends.auto, c.sum_up.auto, c.place_ends.auto))

pub returns-clause-rows : goal.returns-clause-rows
returns-clause-rows c = far_is c.args.n c.args.ends.now _ _ _ c.place_ends.ensures.begun c.place_ends.ensures.table
