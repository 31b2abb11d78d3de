use Rattle.std.proofs.Common.{◌≡◌}
use Rattle.edges.specs.Neighbours.{sum_to}
use Rattle.edges.proofs.Counts.{Summing}
use Rattle.edges.proofs.neighbours.sum_up.Given as goal

abbrev pub invariant-loop-v : goal.invariant-loop-v
invariant-loop-v l = (l.total ≡ sum_to l.initial.offsets l.v) × Summing l.initial.offsets l.v l.offsets
