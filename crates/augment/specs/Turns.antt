-- The walk round a ring that is turned. Definitions only.
use Rattle.std.specs.Prelude.{◌≡◌, Bool, ℕ, Result, Ok, Err}
use Rattle.laws.specs.Run.{Run, ok, fault, while}
use Rattle.matching.specs.Graph.{Graph, is_group}
use Rattle.steps.specs.Augment.{Turning, turning_goes, turning_move, augment_group}
use Rattle.steps.specs.State.{State}
use Rattle.numbers.specs.declared.faults.Fault.{Fault}

-- a group turned that nests at most `depth` deep
abbrev pub below : Graph → (depth : ℕ) → ℕ → ℕ → State → Run State
below G depth = λ c v s. augment_group is_group G depth c v s

abbrev pub at_place : ℕ → State → Turning
at_place place s = record { place = place; state = s }

-- from the child at a place of group b to the first, two children a move
abbrev pub round : Graph → (depth b : ℕ) → (forward : Bool) → (moves place : ℕ) → State → Run Turning
round G depth b forward moves place s = while turning_goes (turning_move is_group G (below G depth) b forward) moves (at_place place s)

-- the walk x answers the next place, with the state s then
abbrev pub Places : Run Turning → Result ℕ Fault → State → Type 0
Places x (Ok k) s = x ≡ ok (at_place k s)
Places x (Err e) s = x ≡ fault
