use Rattle.std.proofs.Common.{◌≡◌, ◌-◌, ◌≤◌, replicate, pos}
use Rattle.entries.specs.Entries.{laid, first_of, second_of, weight_of}
use Rattle.entries.proofs.split.Given as goal

abbrev pub invariant-loop-i : goal.invariant-loop-i
invariant-loop-i l =
    (l.i ≤ l.count) × (l.first ≡ laid first_of l.i l.edges (replicate 2048 0)) × (l.second ≡ laid second_of l.i l.edges (replicate 2048 0))
    × (l.weight ≡ laid weight_of l.i l.edges (replicate 2048 (pos 0)))

abbrev pub decreases-loop-i : goal.decreases-loop-i
decreases-loop-i l = l.count - l.i
