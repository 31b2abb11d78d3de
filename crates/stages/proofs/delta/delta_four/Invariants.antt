use Rattle.std.proofs.Common.{◌≡◌, ◌*◌, ◌-◌}
use Rattle.laws.specs.Run.{for_range}
use Rattle.steps.specs.State.{Progress}
use Rattle.steps.specs.Adjust.{delta4_at}
use Rattle.state.specs.Parts.{state_of}
use Rattle.stages.specs.Deltas.{least_of, SmallOr}
use Rattle.stages.proofs.delta.delta_four.Given as goal

abbrev pub invariant-loop-b : goal.invariant-loop-b
invariant-loop-b l = record {
  rest : (at : Progress) → for_range (delta4_at (state_of l.lists at)) l.b (2 * l.g.nodes - l.b) (least_of l.d)
      ≡ for_range (delta4_at (state_of l.lists at)) l.g.nodes l.g.nodes (least_of l.fn.best);
  small : SmallOr l.d;
}
