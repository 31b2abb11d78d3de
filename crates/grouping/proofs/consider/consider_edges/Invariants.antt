use Rattle.std.proofs.Common.{◌≡◌, drop}
use Rattle.laws.specs.Run.{for_each}
use Rattle.steps.specs.State.{Progress}
use Rattle.steps.specs.Add.{consider}
use Rattle.state.specs.Parts.{state_of}
use Rattle.grouping.proofs.consider.consider_edges.Given as goal

abbrev pub invariant-loop-e : goal.invariant-loop-e
invariant-loop-e l = record {
  rest : (at : Progress) → for_each (consider l.g (state_of l.lists at) l.new) (drop l.e-index l.list) l.links.links
      ≡ for_each (consider l.g (state_of l.lists at) l.new) l.list l.fn.links.links;
  size : l.links.nodes ≡ l.fn.links.nodes;
}
