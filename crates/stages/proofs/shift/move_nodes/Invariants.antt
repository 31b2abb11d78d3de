use Rattle.std.proofs.Common.{◌≡◌, ◌-◌}
use Rattle.laws.specs.Run.{for_range}
use Rattle.steps.specs.State.{Progress}
use Rattle.steps.specs.Adjust.{move_node}
use Rattle.state.specs.Parts.{state_of, sized}
use Rattle.state.specs.Keeps.{ButDuals, InPairing}
use Rattle.stages.proofs.shift.move_nodes.Given as goal

abbrev pub invariant-loop-v : goal.invariant-loop-v
invariant-loop-v l = record {
  rest : (at : Progress) → for_range (move_node l.delta) l.v (l.g.nodes - l.v) (state_of l.lists at)
      ≡ for_range (move_node l.delta) 0 l.g.nodes (state_of l.fn.lists at);
  size : sized l.lists ≡ sized l.fn.lists;
  others : InPairing l.fn.lists l.lists × ButDuals l.fn.lists.pairing l.lists.pairing;
  kids : l.lists.forest.kids ≡ l.fn.lists.forest.kids;
}
