-- A read and a store in the forms in which the code tests them.
use Rattle.std.proofs.Common.{◌≡◌, List, ℕ, ◌≤◌, ◌<◌, length, get_or, set}
use Rattle.laws.specs.Run.{ok, fault, at, put}
use Rattle.laws.proofs.Windows.{at_in, at_out, put_in, put_out}

pub ruleset entries = (at_in, at_out, put_in, put_out)
