use Rattle.std.proofs.Common.{◌≡◌, drop}
use Rattle.laws.specs.Run.{for_each}
use Rattle.steps.specs.State.{Progress}
use Rattle.steps.specs.Add.{adopt}
use Rattle.state.specs.Parts.{state_of, sized}
use Rattle.state.specs.Keeps.{ButParents, InForest}
use Rattle.grouping.proofs.ring.adopt_all.Given as goal

abbrev pub invariant-loop-c : goal.invariant-loop-c
invariant-loop-c l = record {
  rest : (at : Progress) → for_each (adopt l.new) (drop l.c-index l.kids) (state_of l.lists at) ≡ for_each (adopt l.new) l.kids (state_of l.fn.lists at);
  size : sized l.lists ≡ sized l.fn.lists;
  others : InForest l.fn.lists l.lists × ButParents l.fn.lists.forest l.lists.forest;
}
