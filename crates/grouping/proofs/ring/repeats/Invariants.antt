use Rattle.std.proofs.Common.{◌≡◌, length}
use Rattle.laws.specs.Lists.{repeats}
use Rattle.grouping.proofs.ring.repeats.Given as goal

abbrev pub decreases-loop-x : goal.decreases-loop-x
decreases-loop-x l = length l.left

abbrev pub invariant-loop-x : goal.invariant-loop-x
invariant-loop-x l = repeats l.left ≡ repeats l.list
