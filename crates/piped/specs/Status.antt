-- The status that `pair` ends with once it has written a file's answer: 0 for DONE, 3 for every other.
use Rattle.std.specs.Prelude.{Bool, List, ℕ, if◌then◌else◌}
use Rattle.sites.specs.Answered.{done}

abbrev pub status_of : (done : Bool) → ℕ
status_of done = if done then 0 else 3

abbrev pub status : (file : List ℕ) → ℕ
status file = status_of (done file)
