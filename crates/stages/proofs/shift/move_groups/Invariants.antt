use Rattle.std.proofs.Common.{◌≡◌, ◌*◌, ◌-◌}
use Rattle.laws.specs.Run.{for_range}
use Rattle.steps.specs.State.{Progress}
use Rattle.steps.specs.Adjust.{move_group}
use Rattle.state.specs.Parts.{state_of, sized}
use Rattle.state.specs.Keeps.{ButDuals, InPairing}
use Rattle.stages.proofs.shift.move_groups.Given as goal

abbrev pub invariant-loop-b : goal.invariant-loop-b
invariant-loop-b l = record {
  rest : (at : Progress) → for_range (move_group l.delta) l.b (2 * l.g.nodes - l.b) (state_of l.lists at)
      ≡ for_range (move_group l.delta) l.g.nodes l.g.nodes (state_of l.fn.lists at);
  size : sized l.lists ≡ sized l.fn.lists;
  others : InPairing l.fn.lists l.lists × ButDuals l.fn.lists.pairing l.lists.pairing;
  kids : l.lists.forest.kids ≡ l.fn.lists.forest.kids;
}
