use Rattle.std.proofs.Common.{◌≡◌, false, length}
use Rattle.matching.specs.Graph.{is_group}
use Rattle.steps.specs.State.{Progress}
use Rattle.steps.specs.Steps.{is_closing, visit_all}
use Rattle.state.specs.Parts.{state_of, sized, size_of}
use Rattle.search.proofs.visits.visit_all.Given as goal

abbrev pub decreases-loop-p : goal.decreases-loop-p
decreases-loop-p l = length l.left

abbrev pub invariant-loop-p : goal.invariant-loop-p
invariant-loop-p l = record {
  rest : (at : Progress) → is_closing at.phase ≡ false
      → visit_all is_group l.g l.v l.left (state_of l.lists at) ≡ visit_all is_group l.g l.v l.row (state_of l.fn.lists at);
  size : sized l.lists ≡ size_of l.g;
  free : l.lists.forest.free_places ≡ l.fn.lists.forest.free_places;
  room : l.scratch ≡ l.g.nodes;
}
