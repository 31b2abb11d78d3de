use Rattle.std.proofs.Common.{◌≡◌, ◌*◌, ◌-◌}
use Rattle.laws.specs.Run.{and_then, ok, while}
use Rattle.steps.specs.State.{Progress}
use Rattle.steps.specs.Expand.{onward_goes, onward_move}
use Rattle.state.specs.Parts.{state_of, sized}
use Rattle.state.specs.Keeps.{Relabelled}
use Rattle.expand.specs.Parts.{to_entry}
use Rattle.expand.specs.Told.{onward_at}
use Rattle.expand.proofs.walk.onward.Given as goal

abbrev pub invariant-loop : goal.invariant-loop
invariant-loop l =
    let b = l.ring.b in
    let forward = l.ring.forward in
    let go = onward_goes b l.entry in
    let step = onward_move l.g b forward in
    record {
      rest : (at : Progress) → and_then (while go step (2 * l.g.nodes - l.counter) (onward_at l.place (state_of l.lists at))) (λ o. ok o.state)
          ≡ to_entry l.g b forward l.entry l.fn.from (state_of l.fn.lists at);
      size : sized l.lists ≡ sized l.fn.lists;
      others : Relabelled l.fn.lists l.lists;
      kids : l.lists.forest.kids ≡ l.fn.lists.forest.kids;
      room : l.nodes.room ≡ l.fn.nodes.room;
    }
