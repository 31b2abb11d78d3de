-- The path back to the root. Definitions only.
use Rattle.std.specs.Prelude.{◌≡◌, Bool, true, false, ℕ, Option, None, Some, Result, Ok, Err}
use Rattle.laws.specs.Run.{Run, ok, fault}
use Rattle.numbers.specs.declared.End.{End}
use Rattle.numbers.specs.declared.faults.Fault.{Fault}
use Rattle.steps.specs.Augment.{Trail, Reached}
use Rattle.steps.specs.State.{State}
use Rattle.augment.specs.declared.trail.Place.{Place}

abbrev pub on_trail : (v p : ℕ) → Bool → State → Trail
on_trail v p over s = record { v = v; p = p; over = over; state = s }

-- the run x answers the end through which a group was reached, with the state s then
abbrev pub Reaches : Run Reached → Result End Fault → State → Type 0
Reaches x (Ok e) s = x ≡ ok (record { from = e; state = s })
Reaches x (Err e) s = x ≡ fault

-- the run x answers the next node and end, with the state s then
abbrev pub Leads : Run Trail → Result Place Fault → State → Type 0
Leads x (Ok k) s = x ≡ ok (on_trail k.v k.p false s)
Leads x (Err e) s = x ≡ fault

-- from the place k the run x answers the next node and end, or none where the root of k's node has been reached, with the state s then
abbrev pub Moves : (k : Place) → Run Trail → Result (Option Place) Fault → State → Type 0
Moves k x (Ok (Some next)) s = x ≡ ok (on_trail next.v next.p false s)
Moves k x (Ok None) s = x ≡ ok (on_trail k.v k.p true s)
Moves k x (Err e) s = x ≡ fault
