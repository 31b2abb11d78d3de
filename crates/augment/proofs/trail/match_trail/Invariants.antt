use Rattle.std.proofs.Common.{◌≡◌, ◌-◌, ◌*◌, false}
use Rattle.laws.specs.Run.{while}
use Rattle.matching.specs.Graph.{is_group}
use Rattle.steps.specs.Augment.{trail_goes, trail_move}
use Rattle.steps.specs.State.{Progress}
use Rattle.state.specs.Parts.{state_of, sized}
use Rattle.state.specs.Keeps.{Turned}
use Rattle.augment.specs.Trails.{on_trail}
use Rattle.augment.proofs.trail.match_trail.Given as goal

abbrev pub invariant-loop : goal.invariant-loop
invariant-loop l = record {
  rest : (at : Progress)
      → while trail_goes (trail_move is_group l.g) (2 * l.g.nodes - l.counter) (on_trail l.here.v l.here.p false (state_of l.lists at))
      ≡ while trail_goes (trail_move is_group l.g) (2 * l.g.nodes) (on_trail l.fn.v l.fn.p false (state_of l.fn.lists at));
  size : sized l.lists ≡ sized l.fn.lists;
  others : Turned l.fn.lists l.lists;
}
