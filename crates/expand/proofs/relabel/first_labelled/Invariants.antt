use Rattle.std.proofs.Common.{◌≡◌, drop}
use Rattle.steps.specs.State.{Progress}
use Rattle.steps.specs.Expand.{first_labelled}
use Rattle.state.specs.Parts.{state_of}
use Rattle.expand.proofs.relabel.first_labelled.Given as goal

abbrev pub invariant-loop-x : goal.invariant-loop-x
invariant-loop-x l =
    (at : Progress) → first_labelled (state_of l.lists at) l.v (drop l.x-index l.nodes) ≡ first_labelled (state_of l.lists at) 0 l.nodes
