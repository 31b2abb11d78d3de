use Rattle.std.proofs.Common.{◌≡◌, ◌*◌, ◌-◌}
use Rattle.laws.specs.Run.{while}
use Rattle.steps.specs.Augment.{climb_goes, climb_move}
use Rattle.augment.proofs.turn.child_holding.Given as goal

abbrev pub invariant-loop : goal.invariant-loop
invariant-loop l =
    while (climb_goes l.lists.forest.lists.parents l.b) (climb_move l.lists.forest.lists.parents) (2 * l.g.nodes - l.counter) l.t
    ≡ while (climb_goes l.lists.forest.lists.parents l.b) (climb_move l.lists.forest.lists.parents) (2 * l.g.nodes) l.fn.v
