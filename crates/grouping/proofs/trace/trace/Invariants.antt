use Rattle.std.proofs.Common.{◌≡◌, ◌-◌, ◌*◌, [], length}
use Rattle.laws.specs.Run.{while}
use Rattle.steps.specs.Add.{trace_goes, trace_move}
use Rattle.steps.specs.State.{Progress}
use Rattle.state.specs.Parts.{state_of}
use Rattle.grouping.specs.Parts.{standing}
use Rattle.grouping.proofs.trace.trace.Given as goal

abbrev pub decreases-loop-stop : goal.decreases-loop-stop
decreases-loop-stop l = l.path.room - length l.path.kids

abbrev pub invariant-loop-stop : goal.invariant-loop-stop
invariant-loop-stop l = record {
  rest : (at : Progress)
      → while (trace_goes l.stop) (trace_move l.g (state_of l.lists at)) (l.path.room - length l.path.kids) (standing l.here l.path.kids l.path.ends)
      ≡ while (trace_goes l.stop) (trace_move l.g (state_of l.lists at)) (2 * l.g.nodes) (standing l.fn.b [] []);
  room : l.path.room ≡ 2 * l.g.nodes;
}
