use Rattle.std.proofs.Common.{◌≡◌, ◌*◌, ◌-◌, ◌≤◌, ◌<◌}
use Rattle.matching.specs.Tests.{climb_ends}
use Rattle.certificate.proofs.nodes.climb_ends.Given as goal

abbrev pub invariant-loop-k : goal.invariant-loop-k
invariant-loop-k l =
    (l.at < 2 * l.n) × (l.k ≤ l.n) × (climb_ends l.parents (l.n - l.k) l.at ≡ climb_ends l.parents l.n l.i)

abbrev pub decreases-loop-k : goal.decreases-loop-k
decreases-loop-k l = l.n - l.k
