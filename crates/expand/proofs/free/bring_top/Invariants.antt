use Rattle.std.proofs.Common.{◌≡◌, drop}
use Rattle.laws.specs.Run.{for_each}
use Rattle.steps.specs.State.{Progress}
use Rattle.steps.specs.Expand.{bring_top}
use Rattle.state.specs.Parts.{state_of, sized}
use Rattle.state.specs.Keeps.{ButTops, InForest}
use Rattle.expand.proofs.free.bring_top.Given as goal

abbrev pub invariant-loop-v : goal.invariant-loop-v
invariant-loop-v l = record {
  rest : (at : Progress) → for_each (bring_top l.c) (drop l.v-index l.nodes) (state_of l.lists at)
      ≡ for_each (bring_top l.c) l.nodes (state_of l.fn.lists at);
  size : sized l.lists ≡ sized l.fn.lists;
  others : InForest l.fn.lists l.lists × ButTops l.fn.lists.forest l.lists.forest;
  kids : l.lists.forest.kids ≡ l.fn.lists.forest.kids;
}
