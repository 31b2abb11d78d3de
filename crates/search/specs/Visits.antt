-- What a visit leaves: the lists, and the phase closing where the matching was augmented. Definitions only.
use Rattle.std.specs.Prelude.{if◌then◌else◌, ◌≡◌, ◌&&◌, ◌||◌, not, Bool, false, ℕ, pos, ◌/◌, eqb, Result, Ok, Err}
use Rattle.std.specs.Int.Signed.{le_z}
use Rattle.laws.specs.Run.{Run, ok, fault, ◌>>=◌, must, at}
use Rattle.matching.specs.Graph.{Graph, is_group}
use Rattle.steps.specs.Ends.{endpoint, far_ends, slack_of}
use Rattle.steps.specs.Steps.{visit_all}
use Rattle.steps.specs.State.{State, Progress, closing, ended}
use Rattle.numbers.specs.declared.faults.Fault.{Fault}
use Rattle.state.specs.Parts.{Parts, state_of}

-- the progress after a visit
abbrev pub after : Bool → Progress → Progress
after t at = record { stage = at.stage; phase = if t then closing else at.phase }

abbrev pub Visits : Run State → Result Bool Fault → Parts → Progress → Type 0
Visits x (Ok t) s at = x ≡ ok (state_of s (after t at))
Visits x (Err e) s at = x ≡ fault

-- edge e to node w, whose outermost group has label 1, is allowed or will be: it joins two label-1 groups
abbrev pub is_yes : Run Bool → Bool
is_yes (ok t) = t
is_yes fault = false

abbrev pub joining : Graph → Parts → (w e : ℕ) → Run Bool
joining G s w e = do
  a ← at s.labels.lists.allowed e
  k ← if a then ok (pos 0) else slack_of G s.pairing.lists.duals e
  t ← at s.forest.lists.tops w
  l ← at s.labels.lists.labels t
  own ← at s.labels.lists.labels w
  ok ((a || le_z k (pos 0)) && eqb l 1)

abbrev pub joins : Graph → Parts → (w e : ℕ) → Bool
joins G s w e = is_yes (joining G s w e)

-- so does the edge at end p, from node v of another group
abbrev pub joins_at : Graph → Parts → (v p : ℕ) → Bool
joins_at G s v p = is_yes (do
  w ← endpoint G p
  from ← at s.forest.lists.tops v
  to ← at s.forest.lists.tops w
  t ← joining G s w (p / 2)
  ok (not (eqb from to) && t))

-- node v, which has left the queue, is of a label-1 group, and its neighbours are visited
unfoldable pub taken : Graph → (v : ℕ) → State → Run State
taken G v s = do
  t ← at s.forest.tops v
  l ← at s.labelling.labels t
  _ ← must (eqb l 1)
  visit_all is_group G v (far_ends G v) s

-- the progress after an adjustment: ended where it was of type 1
abbrev pub onward : Bool → Progress → Progress
onward t at = record { stage = at.stage; phase = if t then ended else at.phase }

abbrev pub Follows : Run State → Result Bool Fault → Parts → Progress → Type 0
Follows x (Ok t) s at = x ≡ ok (state_of s (onward t at))
Follows x (Err e) s at = x ≡ fault
