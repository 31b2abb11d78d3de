use Rattle.std.proofs.Common.{◌≡◌, drop}
use Rattle.laws.specs.Run.{for_each}
use Rattle.steps.specs.State.{Progress}
use Rattle.steps.specs.Add.{gather}
use Rattle.state.specs.Parts.{state_of, sized}
use Rattle.state.specs.Keeps.{ButGathered, InLabels}
use Rattle.grouping.specs.Parts.{gathered}
use Rattle.grouping.proofs.best.gather_all.Given as goal

abbrev pub invariant-loop-c : goal.invariant-loop-c
invariant-loop-c l = record {
  rest : (at : Progress) → for_each (gather l.g l.new) (drop l.c-index l.kids) (gathered l.links.links (state_of l.lists at))
      ≡ for_each (gather l.g l.new) l.kids (gathered l.fn.links.links (state_of l.fn.lists at));
  links : l.links.nodes ≡ l.fn.links.nodes;
  room : l.nodes.room ≡ l.fn.nodes.room;
  size : sized l.lists ≡ sized l.fn.lists;
  others : InLabels l.fn.lists l.lists × ButGathered l.fn.lists.labels l.lists.labels;
}
