use Rattle.std.proofs.Common.{◌≡◌, ◌-◌}
use Rattle.laws.specs.Run.{for_range}
use Rattle.steps.specs.State.{Progress}
use Rattle.steps.specs.Steps.{root_at}
use Rattle.state.specs.Parts.{state_of, sized}
use Rattle.state.specs.Keeps.{ButLabelled, InLabels}
use Rattle.stages.proofs.open.roots.Given as goal

abbrev pub invariant-loop-v : goal.invariant-loop-v
invariant-loop-v l = record {
  rest : (at : Progress) → for_range (root_at l.g) l.v (l.g.nodes - l.v) (state_of l.lists at)
      ≡ for_range (root_at l.g) 0 l.g.nodes (state_of l.fn.lists at);
  size : sized l.lists ≡ sized l.fn.lists;
  others : InLabels l.fn.lists l.lists × ButLabelled l.fn.lists.labels l.lists.labels;
  kids : l.lists.forest.kids ≡ l.fn.lists.forest.kids;
}
