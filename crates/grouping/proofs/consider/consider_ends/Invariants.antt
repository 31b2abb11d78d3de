use Rattle.std.proofs.Common.{◌≡◌, drop}
use Rattle.laws.specs.Run.{for_each}
use Rattle.steps.specs.State.{Progress}
use Rattle.state.specs.Parts.{state_of}
use Rattle.grouping.specs.Parts.{at_end}
use Rattle.grouping.proofs.consider.consider_ends.Given as goal

abbrev pub invariant-loop-p : goal.invariant-loop-p
invariant-loop-p l = record {
  rest : (at : Progress) → for_each (at_end l.g (state_of l.lists at) l.new) (drop l.p-index l.list) l.links.links
      ≡ for_each (at_end l.g (state_of l.lists at) l.new) l.list l.fn.links.links;
  size : l.links.nodes ≡ l.fn.links.nodes;
}
