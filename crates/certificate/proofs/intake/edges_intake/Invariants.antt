use Rattle.std.proofs.Common.{◌≡◌, drop}
use Rattle.matching.specs.Graph.{edges_from}
use Rattle.steps.specs.Refusals.{edges_intake}
use Rattle.certificate.proofs.intake.edges_intake.Given as goal

abbrev pub invariant-loop-e : goal.invariant-loop-e
invariant-loop-e l =
    edges_intake l.n l.e (drop l.e (edges_from l.first l.second l.weight)) ≡ edges_intake l.n 0 (edges_from l.first l.second l.weight)
