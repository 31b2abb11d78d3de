use Rattle.std.proofs.Common.{◌≡◌, ◌<◌, drop}
use Rattle.laws.specs.Lists.{Each}
use Rattle.laws.specs.Run.{for_each}
use Rattle.steps.specs.State.{Progress}
use Rattle.steps.specs.Add.{consider_at}
use Rattle.state.specs.Parts.{state_of}
use Rattle.grouping.proofs.consider.consider_nodes.Given as goal

abbrev pub invariant-loop-v : goal.invariant-loop-v
invariant-loop-v l = record {
  rest : (at : Progress) → for_each (consider_at l.g (state_of l.lists at) l.new) (drop l.v-index l.list) l.links.links
      ≡ for_each (consider_at l.g (state_of l.lists at) l.new) l.list l.fn.links.links;
  size : l.links.nodes ≡ l.fn.links.nodes;
  nodes : Each (λ v. v < l.g.nodes) (drop l.v-index l.list);
}
