use Rattle.std.proofs.Common.{◌≡◌, drop}
use Rattle.laws.specs.Run.{for_each}
use Rattle.matching.specs.Graph.{missing}
use Rattle.steps.specs.Add.{tightest}
use Rattle.grouping.proofs.best.tightest.Given as goal

abbrev pub invariant-loop-e : goal.invariant-loop-e
invariant-loop-e l =
    for_each (tightest l.g l.lists.pairing.lists.duals) (drop l.e-index l.list) l.best
    ≡ for_each (tightest l.g l.lists.pairing.lists.duals) l.list missing
