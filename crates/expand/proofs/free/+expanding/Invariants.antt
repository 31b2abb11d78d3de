use Rattle.std.proofs.Common.{◌≡◌, ◌+◌, ◌*◌, drop}
use Rattle.laws.specs.Run.{for_each}
use Rattle.steps.specs.State.{Progress}
use Rattle.steps.specs.Expand.{free_child, expand_group}
use Rattle.state.specs.Parts.{state_of, sized}
use Rattle.state.specs.Keeps.{Expanded}
use Rattle.state.specs.Kids.{kids_row}
use Rattle.expand.proofs.free.+expanding.Given as goal

abbrev pub decreases-expand_group : goal.decreases-expand_group
decreases-expand_group l = 5 * l.depth

abbrev pub decreases-free_group : goal.decreases-free_group
decreases-free_group l = 5 * l.depth + 1

abbrev pub decreases-free_child : goal.decreases-free_child
decreases-free_child l = 5 * l.depth + 2

abbrev pub decreases-free_children : goal.decreases-free_children
decreases-free_children l = 5 * l.depth + 3

abbrev pub decreases-take_apart : goal.decreases-take_apart
decreases-take_apart l = 5 * l.depth + 4

abbrev pub invariant-free_children-loop-k : goal.invariant-free_children-loop-k
invariant-free_children-loop-k l =
    let free = free_child l.g (expand_group l.g l.depth l.last) l.last in
    let row = kids_row l.g.nodes l.b l.m l.fn.lists.forest.kids in
    record {
      rest : (at : Progress) → for_each free (drop l.k row) (state_of l.lists at) ≡ for_each free row (state_of l.fn.lists at);
      size : sized l.lists ≡ sized l.fn.lists;
      others : Expanded l.last l.fn.lists l.lists;
      kids : l.lists.forest.kids ≡ l.fn.lists.forest.kids;
      room : l.nodes.room ≡ l.fn.nodes.room;
    }
