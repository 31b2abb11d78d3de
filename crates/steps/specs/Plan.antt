-- The plan call: the refusals, the run counted against the budget, its certificate judged, and the answer with the final contents of
-- the three lent lists over their whole length. Definitions only.
use Rattle.std.specs.Prelude.{if◌then◌else◌, Bool, true, false, List, [], ◌∷◌, ◌++◌, ℕ, zero, suc, ◌*◌, ◌-◌, ℤ, pos, replicate}
use Rattle.laws.specs.Run.{Run, ok, fault}
use Rattle.matching.specs.Graph.{Graph, graph_of, Edge, missing, is_group}
use Rattle.matching.specs.Certificate.{Certificate}
use Rattle.matching.specs.Tests.{Verdict, YES, NO, verdict}
use Rattle.steps.specs.State.{State, Phase, opening, searching, closing, ended, start}
use Rattle.steps.specs.Steps.{step}
use Rattle.steps.specs.Refusals.{Refusal, refusal_number, refusal_place, Intake, fine, refused, Room, intake}

-- ---- answers

pub data Answer : Type 0 where
  DONE STEPS FAULT : Answer
  REFUSED : Refusal → Answer

abbrev pub answer_number : Answer → ℕ
answer_number DONE = 0
answer_number (REFUSED r) = refusal_number r
answer_number STEPS = 7
answer_number FAULT = 8

abbrev pub answer_place : Answer → ℕ
answer_place DONE = 0
answer_place (REFUSED r) = refusal_place r
answer_place STEPS = 0
answer_place FAULT = 0

-- ---- the run

-- how a run went, with the steps completed
pub data Ending : Type 0 where
  finished : (steps : ℕ) → State → Ending
  spent broken : (steps : ℕ) → Ending

abbrev pub is_ended : Phase → Bool
is_ended opening = false
is_ended searching = false
is_ended closing = false
is_ended ended = true

-- after a step: a faulting one isn't counted
abbrev pub onward : (count : ℕ) → (State → Ending) → Run State → Ending
onward count rest (ok s) = rest s
onward count rest fault = broken count

-- `left` steps of the budget are left, and `count` were completed; `turns` is that of Augment
unfoldable pub run_by : (turns : (n c : ℕ) → Bool) → Graph → (flag : Bool) → (left count : ℕ) → State → Ending
run_by turns G flag zero count s = if is_ended s.progress.phase then finished count s else spent count
run_by turns G flag (suc left) count s =
    let next = onward count (λ s. run_by turns G flag left (suc count) s) (step turns G flag s) in
    if is_ended s.progress.phase then finished count s else next

-- a child that is a group is re-rooted
unfoldable pub run : Graph → (flag : Bool) → (left count : ℕ) → State → Ending
run G flag left count s = run_by is_group G flag left count s

-- ---- the result

pub record Plan : Type 0 where
  pub answer : Answer
  pub steps : ℕ
  -- the lent lists at the end, over their whole length
  pub mates : List ℕ
  pub duals : List ℤ
  pub parents : List ℕ

unfoldable pub cleared : Room → Answer → (steps : ℕ) → Plan
cleared room a steps =
    record {
      answer = a;
      steps = steps;
      mates = replicate room.mates missing;
      duals = replicate room.duals (pos 0);
      parents = replicate room.parents missing;
    }

unfoldable pub filled : (n : ℕ) → Room → (steps : ℕ) → Certificate → Plan
filled n room steps C =
    record {
      answer = DONE;
      steps = steps;
      mates = C.mates ++ replicate (room.mates - n) missing;
      duals = C.duals ++ replicate (room.duals - 2 * n) (pos 0);
      parents = C.parents ++ replicate (room.parents - 2 * n) missing;
    }

unfoldable pub certificate_of : State → Certificate
certificate_of s = record { mates = s.pairing.mates; duals = s.pairing.duals; parents = s.forest.parents }

-- ---- the call

-- DONE only where the certificate passes
unfoldable pub certified : (n : ℕ) → Room → (steps : ℕ) → Certificate → Verdict → Plan
certified n room steps C YES = filled n room steps C
certified n room steps C (NO c) = cleared room FAULT steps

unfoldable pub plan_end : Graph → (flag : Bool) → Room → Ending → Plan
plan_end G flag room (finished steps s) = certified G.nodes room steps (certificate_of s) (verdict G flag (certificate_of s))
plan_end G flag room (spent steps) = cleared room STEPS steps
plan_end G flag room (broken steps) = cleared room FAULT steps

-- with no edges there is nothing to do
unfoldable pub plan_fine : Graph → (flag : Bool) → (budget : ℕ) → Room → List Edge → Plan
plan_fine G flag budget room [] = cleared room DONE 0
plan_fine G flag budget room (x ∷ xs) = plan_end G flag room (run G flag budget 0 (start G))

unfoldable pub plan_after : Graph → (flag : Bool) → (budget : ℕ) → Room → Intake → Plan
plan_after G flag budget room fine = plan_fine G flag budget room G.edges
plan_after G flag budget room (refused r) = cleared room (REFUSED r) 0

unfoldable pub plan : Room → (n : ℕ) → List Edge → (flag : Bool) → (budget : ℕ) → Plan
plan room n edges flag budget = plan_after (graph_of n edges) flag budget room (intake n edges room)
