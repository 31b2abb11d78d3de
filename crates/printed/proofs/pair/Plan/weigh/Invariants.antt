use Rattle.std.proofs.Common.{◌≡◌, ◌≤◌, ◌*◌, nat_abs}
use Rattle.laws.specs.Lists.{range}
use Rattle.printed.specs.Answer.{pairs_at}
use Rattle.printed.specs.Found.{graph_in, weights_total}
use Rattle.printed.proofs.pair.Plan.weigh.Given as goal

abbrev pub invariant-loop-v : goal.invariant-loop-v
invariant-loop-v l =
    (nat_abs l.sum ≤ l.v * 1000000000) × (l.sum ≡ weights_total (pairs_at (graph_in l.self) l.self.mates.now (range 0 l.v)))
