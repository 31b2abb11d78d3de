-- What the code's answers stand for, and the plan call on three parallel lists of edges. Document 01's number, place and steps of an answer
-- are `number_of`, `place_of` and `steps_of` of it.
use Rattle.std.specs.Prelude.{if◌then◌else◌, Bool, List, ℕ, ℤ, length}
use Rattle.matching.specs.Graph.{edges_from}
use Rattle.steps.specs.Refusals.{Room}
use Rattle.steps.specs.Plan.{Answer, DONE, STEPS, FAULT, REFUSED, answer_number, answer_place, Plan, cleared, plan}
use Rattle.certificate.specs.Lists.{same_length, unequal}
use Rattle.certificate.specs.View.{cause_of}
use Rattle.plan.specs.declared.answers.Answer as answer
use Rattle.plan.specs.declared.answers.Answer.TheVariants as answers

abbrev pub answer_of : answer.Answer → Answer
answer_of (answers.Done k) = DONE
answer_of (answers.Steps k) = STEPS
answer_of (answers.Fault k) = FAULT
answer_of (answers.Refused c) = REFUSED (cause_of c)

abbrev pub number_of : answer.Answer → ℕ
number_of a = answer_number (answer_of a)

abbrev pub place_of : answer.Answer → ℕ
place_of a = answer_place (answer_of a)

abbrev pub steps_of : answer.Answer → ℕ
steps_of (answers.Done k) = k
steps_of (answers.Steps k) = k
steps_of (answers.Fault k) = k
steps_of (answers.Refused c) = 0

-- an answer with the lent lists at the end, over their whole length
abbrev pub plan_of : answer.Answer → (mates : List ℕ) → (duals : List ℤ) → (parents : List ℕ) → Plan
plan_of a mates duals parents = record { answer = answer_of a; steps = steps_of a; mates = mates; duals = duals; parents = parents }

-- lists of one length are the edge list whose entry e is made of the three entries e; others are no edge list, and are refused
unfoldable pub plan_lists : Room → (n : ℕ) → (first second : List ℕ) → (weight : List ℤ) → (flag : Bool) → (budget : ℕ) → Plan
plan_lists room n first second weight flag budget =
    if same_length first second weight then plan room n (edges_from first second weight) flag budget
    else cleared room (REFUSED (unequal n (length first))) 0
