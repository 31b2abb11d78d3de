-- What a turn of the scan's walk stands for. Definitions only.
use Rattle.std.specs.Prelude.{if◌then◌else◌, Bool, true, false, ◌≡◌, List, ℕ, Option, None, Some, Result, Ok, Err}
use Rattle.std.specs.Option.{is_some}
use Rattle.laws.specs.Run.{Run, ok, fault}
use Rattle.matching.specs.Graph.{missing, is_missing}
use Rattle.steps.specs.Scan.{Walk}
use Rattle.numbers.specs.declared.Node.{Node}
use Rattle.numbers.specs.declared.faults.Fault.{Fault}
use Rattle.state.specs.declared.scan.Walk.{Walk as Turn}

-- the base that is met, missing where there is none
abbrev pub base_of : Option Node → ℕ
base_of (Some b) = b
base_of None = missing

-- a walk that begins at v and w
abbrev pub start_from : (v w : ℕ) → (marks : List ℕ) → Walk
start_from v w marks = record { v = v; w = w; labels = marks; met = false; base = missing }

-- a turn's answer, with these labels marked
abbrev pub walk_of : Turn → (marks : List ℕ) → Walk
walk_of k marks = record { v = k.v; w = k.w; labels = marks; met = is_some k.met; base = base_of k.met }

-- the walk x answers a turn
abbrev pub Walks : Run Walk → Result Turn Fault → (marks : List ℕ) → Type 0
Walks x (Ok k) marks = x ≡ ok (walk_of k marks)
Walks x (Err e) marks = x ≡ fault

-- r is the base that is met, and none where it is missing
abbrev pub Bases : (met r : Option Node) → Type 0
Bases met (Some b) = (base_of met ≡ b) × (is_missing b ≡ false)
Bases met None = base_of met ≡ missing

-- the run x answers a base, and missing where there is none
abbrev pub AnswersBase : Run ℕ → Result (Option Node) Fault → Type 0
AnswersBase x (Ok (Some b)) = (x ≡ ok b) × (is_missing b ≡ false)
AnswersBase x (Ok None) = x ≡ ok missing
AnswersBase x (Err e) = x ≡ fault

-- a mark is met, or both paths have ended
abbrev pub stopped : (met : Bool) → (v w : ℕ) → Bool
stopped met v w = if met then true else (if is_missing v then is_missing w else false)
