use Rattle.std.proofs.Common.{◌≡◌, ◌≤◌, length}
use Rattle.laws.specs.Lists.{range}
use Rattle.printed.specs.Answer.{pairs_at}
use Rattle.printed.specs.Found.{graph_in}
use Rattle.printed.proofs.pair.Plan.count.Given as goal

abbrev pub invariant-loop-v : goal.invariant-loop-v
invariant-loop-v l = (l.count ≤ l.v) × (l.count ≡ length (pairs_at (graph_in l.self) l.self.mates.now (range 0 l.v)))
