use Rattle.std.proofs.Common.{◌≡◌, ◌-◌}
use Rattle.laws.specs.Run.{for_range}
use Rattle.steps.specs.State.{Progress}
use Rattle.steps.specs.Adjust.{delta2_at}
use Rattle.state.specs.Parts.{state_of}
use Rattle.stages.specs.Deltas.{least_of, SmallOr}
use Rattle.stages.proofs.delta.delta_two.Given as goal

abbrev pub invariant-loop-v : goal.invariant-loop-v
invariant-loop-v l = record {
  rest : (at : Progress) → for_range (delta2_at l.g (state_of l.lists at)) l.v (l.g.nodes - l.v) (least_of l.d)
      ≡ for_range (delta2_at l.g (state_of l.lists at)) 0 l.g.nodes (least_of l.fn.best);
  small : SmallOr l.d;
}
