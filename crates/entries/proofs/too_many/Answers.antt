use Rattle.std.proofs.Common.{lt-ltb, le-ltb}
use Rattle.entries.specs.Calls.{overfull}
use Rattle.entries.proofs.too_many.Goals as goal

pub returns-then-n-gt64 : goal.returns-then-n-gt64
unfolding overfull
returns-then-n-gt64 c = rw (lt-ltb 64 c.args.n c.if-n-gt64.true)

pub returns-else-n-gt64 : goal.returns-else-n-gt64
unfolding overfull
returns-else-n-gt64 c = rw (le-ltb 64 c.args.n c.if-n-gt64.false)
