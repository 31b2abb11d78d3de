use Rattle.std.proofs.Common.{length, take, ◌-◌, ◌≤◌, ◌≡◌}
use Rattle.std.specs.Io.KnownBytes.{Consumes}
use Rattle.piped.proofs.read_input.Given as goal

abbrev pub invariant-loop-size : goal.invariant-loop-size
invariant-loop-size g l =
    (l.size ≤ length l.file)
    × (length l.file ≡ length l.initial.file)
    × Consumes (g.R.Read.remaining l.initial.from) (g.R.Read.remaining l.from) (take l.size l.file)

abbrev pub decreases-loop-size : goal.decreases-loop-size
decreases-loop-size g l = length l.initial.file - l.size
