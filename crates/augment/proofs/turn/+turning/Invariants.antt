use Rattle.std.proofs.Common.{◌≡◌, ◌+◌, ◌*◌, ◌-◌, ◌<◌}
use Rattle.matching.specs.Graph.{is_odd}
use Rattle.steps.specs.State.{Progress}
use Rattle.state.specs.Parts.{state_of, sized}
use Rattle.state.specs.Keeps.{Turned}
use Rattle.augment.specs.Turns.{round}
use Rattle.augment.proofs.turn.+turning.Given as goal

abbrev pub decreases-turn_group : goal.decreases-turn_group
decreases-turn_group l = 5 * l.depth

abbrev pub decreases-turn_level : goal.decreases-turn_level
decreases-turn_level l = 5 * l.depth + 4

abbrev pub decreases-turn_child : goal.decreases-turn_child
decreases-turn_child l = 5 * l.depth + 1

abbrev pub decreases-turn_two : goal.decreases-turn_two
decreases-turn_two l = 5 * l.depth + 2

abbrev pub decreases-turn_ring : goal.decreases-turn_ring
decreases-turn_ring l = 5 * l.depth + 3

abbrev pub invariant-turn_ring-loop : goal.invariant-turn_ring-loop
invariant-turn_ring-loop l = record {
  rest : (at : Progress) → round l.g l.depth l.b (is_odd l.i) (2 * l.g.nodes - l.counter) l.place (state_of l.lists at)
      ≡ round l.g l.depth l.b (is_odd l.i) (2 * l.g.nodes) l.i (state_of l.fn.lists at);
  near : l.place < 65535;
  size : sized l.lists ≡ sized l.fn.lists;
  others : Turned l.fn.lists l.lists;
}
