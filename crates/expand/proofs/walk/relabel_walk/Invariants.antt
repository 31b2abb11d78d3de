use Rattle.std.proofs.Common.{◌≡◌, ◌*◌, ◌-◌}
use Rattle.laws.specs.Run.{while}
use Rattle.steps.specs.State.{Progress}
use Rattle.steps.specs.Expand.{relabel_goes, relabel_move}
use Rattle.state.specs.Parts.{state_of, sized}
use Rattle.state.specs.Keeps.{Relabelled}
use Rattle.expand.specs.Parts.{to_base}
use Rattle.expand.specs.Told.{relabel_at}
use Rattle.expand.proofs.walk.relabel_walk.Given as goal

abbrev pub invariant-loop : goal.invariant-loop
invariant-loop l =
    let b = l.ring.b in
    let forward = l.ring.forward in
    record {
      rest : (at : Progress) → while relabel_goes (relabel_move l.g b forward) (2 * l.g.nodes - l.counter) (relabel_at l.k.place l.k.p (state_of l.lists at))
          ≡ to_base l.g b forward l.fn.from.place l.fn.from.p (state_of l.fn.lists at);
      size : sized l.lists ≡ sized l.fn.lists;
      others : Relabelled l.fn.lists l.lists;
      kids : l.lists.forest.kids ≡ l.fn.lists.forest.kids;
    }
