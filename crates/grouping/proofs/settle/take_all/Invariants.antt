use Rattle.std.proofs.Common.{◌≡◌, drop}
use Rattle.laws.specs.Run.{for_each}
use Rattle.steps.specs.State.{Progress}
use Rattle.steps.specs.Add.{take_in}
use Rattle.state.specs.Parts.{state_of, sized}
use Rattle.state.specs.Keeps.{TakenIn}
use Rattle.grouping.proofs.settle.take_all.Given as goal

abbrev pub invariant-loop-v : goal.invariant-loop-v
invariant-loop-v l = record {
  rest : (at : Progress) → for_each (take_in l.g l.new) (drop l.v-index l.nodes) (state_of l.lists at)
      ≡ for_each (take_in l.g l.new) l.nodes (state_of l.fn.lists at);
  size : sized l.lists ≡ sized l.fn.lists;
  others : TakenIn l.fn.lists l.lists;
}
