-- What the answers of the walk round a ring stand for. Definitions only.
use Rattle.std.specs.Prelude.{◌≡◌, ℕ, Bool, List, Result, Ok, Err, length}
use Rattle.laws.specs.Run.{Run, ok, fault}
use Rattle.numbers.specs.declared.faults.Fault.{Fault}
use Rattle.steps.specs.State.{State}
use Rattle.steps.specs.Ring.{around, link_end}
use Rattle.steps.specs.Expand.{Relabel, Onward}
use Rattle.expand.specs.declared.walk.Hop.{Hop}

-- the ring end at place j and the place after it
abbrev pub Links : (forward : Bool) → (ends : List ℕ) → (j : ℕ) → Result Hop Fault → Type 0
Links forward ends j (Ok k) = (link_end forward ends j ≡ ok k.p) × (around forward (length ends) j ≡ k.place)
Links forward ends j (Err e) = link_end forward ends j ≡ fault

-- the same at the place that a first hop came to; nothing is said where there was none
abbrev pub LinksOn : (forward : Bool) → (ends : List ℕ) → (first : Result Hop Fault) → Result Hop Fault → Type 0
LinksOn forward ends (Ok k) r = Links forward ends k.place r
LinksOn forward ends (Err e) r = Unit {0}

abbrev pub relabel_at : (place p : ℕ) → State → Relabel
relabel_at place p s = record { place = place; p = p; state = s }

abbrev pub onward_at : (place : ℕ) → State → Onward
onward_at place s = record { place = place; state = s }

-- the run x answers a hop, and leaves s
abbrev pub Relabels : Run Relabel → Result Hop Fault → State → Type 0
Relabels x (Ok k) s = x ≡ ok (relabel_at k.place k.p s)
Relabels x (Err e) s = x ≡ fault
