use Rattle.std.proofs.Common.{◌≡◌, List, ◌-◌, ◌≤◌, ℤ, length}
use Rattle.plan.proofs.EndLaws.{laid}
use Rattle.plan.proofs.ends.lay_ends.Given as goal

abbrev pub invariant-loop-e : goal.invariant-loop-e
invariant-loop-e l =
    (l.e ≤ l.e-end) × (l.e-end ≡ length l.first) × (length l.ends ≡ length l.initial.ends)
    × ((weight : List ℤ) → length weight ≡ length l.first → l.ends ≡ laid l.initial.ends l.first l.second weight l.e)

abbrev pub decreases-loop-e : goal.decreases-loop-e
decreases-loop-e l = l.e-end - l.e
