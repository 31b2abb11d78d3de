use Rattle.std.proofs.Common.{◌≡◌, ◌-◌, drop, false, length}
use Rattle.steps.specs.State.{Progress}
use Rattle.steps.specs.Steps.{is_closing, visit_all}
use Rattle.steps.specs.Stores.{with_best}
use Rattle.state.specs.Parts.{state_of, sized}
use Rattle.state.specs.Keeps.{ButBest, InLabels}
use Rattle.stages.specs.Look.{Turns, Keen}
use Rattle.stages.proofs.look.look_on.Given as goal

abbrev pub decreases-loop-p : goal.decreases-loop-p
decreases-loop-p l = length l.left

abbrev pub invariant-loop-p : goal.invariant-loop-p
invariant-loop-p l = record {
  end : l.left ≡ drop (length l.row - length l.left) l.row;
  keen : Keen l.g l.lists l.group l.keen;
  best : (at : Progress) → state_of l.lists at ≡ with_best l.lists.labels.lists.best (state_of l.fn.lists at);
  kids : l.lists.forest.kids ≡ l.fn.lists.forest.kids;
  size : sized l.lists ≡ sized l.fn.lists;
  others : InLabels l.fn.lists l.lists × ButBest l.fn.lists.labels l.lists.labels;
  rest : (turns : Turns) (at : Progress) → is_closing at.phase ≡ false
      → visit_all turns l.g l.fn.v l.left (state_of l.lists at) ≡ visit_all turns l.g l.fn.v l.row (state_of l.fn.lists at);
}
