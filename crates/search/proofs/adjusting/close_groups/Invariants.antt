use Rattle.std.proofs.Common.{◌≡◌, ◌-◌, ◌*◌}
use Rattle.laws.specs.Run.{for_range}
use Rattle.steps.specs.State.{Progress}
use Rattle.steps.specs.Steps.{close_group}
use Rattle.state.specs.Parts.{state_of, sized, size_of}
use Rattle.state.specs.Keeps.{Closed}
use Rattle.search.proofs.adjusting.close_groups.Given as goal

abbrev pub invariant-loop-b : goal.invariant-loop-b
invariant-loop-b l = record {
  rest : (at : Progress) → for_range (close_group l.g) l.b (2 * l.g.nodes - l.b) (state_of l.lists at)
      ≡ for_range (close_group l.g) l.g.nodes l.g.nodes (state_of l.fn.lists at);
  size : sized l.lists ≡ size_of l.g;
  others : Closed l.fn.lists l.lists;
  room : l.scratch ≡ l.g.nodes;
}
