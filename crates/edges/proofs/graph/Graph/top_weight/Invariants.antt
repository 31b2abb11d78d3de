use Rattle.std.proofs.Common.{◌≡◌, ◌≤◌, pos, nat_abs, drop}
use lib.Signed.{◌≤ℤ◌}
use Rattle.std.specs.Int.{int_max}
use Rattle.steps.specs.Ends.{top_weight}
use Rattle.edges.proofs.graph.Graph.top_weight.Given as goal

abbrev pub invariant-loop-w : goal.invariant-loop-w
invariant-loop-w l =
    (int_max (top_weight (drop l.w-index l.fn.self.edges)) l.top ≡ top_weight l.fn.self.edges) × (pos 0 ≤ℤ l.top) × (nat_abs l.top ≤ 1000000000)
