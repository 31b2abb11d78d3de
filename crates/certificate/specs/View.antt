-- What the code's answers stand for. Document 01's number and place of a verdict are `judgement_number` and `judgement_place` of it.
use Rattle.std.specs.Prelude.{◌≡◌, Bool, true, false, ℕ, Result, Ok, Err}
use Rattle.matching.specs.Certificate.{Condition, MATE, PARENT, DUAL, EDGE, TIGHT, FREE, FULL}
use Rattle.matching.specs.Tests.{Verdict, YES, NO}
use Rattle.steps.specs.Refusals.{Refusal, NODES, EDGES, BUFFER, END, LOOP, WEIGHT, Intake, fine, refused}
use Rattle.steps.specs.Check.{Judgement, JUDGED, DECLINED, judgement_number, judgement_place}
use Rattle.certificate.specs.declared.answers.Cause as cause
use Rattle.certificate.specs.declared.answers.Cause.TheVariants as causes
use Rattle.certificate.specs.declared.answers.Condition as condition
use Rattle.certificate.specs.declared.answers.Condition.TheVariants as conditions
use Rattle.certificate.specs.declared.answers.Verdict as verdict
use Rattle.certificate.specs.declared.answers.Verdict.TheVariants as verdicts

abbrev pub cause_of : cause.Cause → Refusal
cause_of causes.Nodes = NODES
cause_of causes.Edges = EDGES
cause_of causes.Buffer = BUFFER
cause_of (causes.End e) = END e
cause_of (causes.Loop e) = LOOP e
cause_of (causes.Weight e) = WEIGHT e

abbrev pub intake_of : {A : Type 0} → Result A cause.Cause → Intake
intake_of (Ok a) = fine
intake_of (Err c) = refused (cause_of c)

abbrev pub condition_of : condition.Condition → Condition
condition_of conditions.Mate = MATE
condition_of conditions.Parent = PARENT
condition_of conditions.Dual = DUAL
condition_of conditions.Edge = EDGE
condition_of conditions.Tight = TIGHT
condition_of conditions.Free = FREE
condition_of conditions.Full = FULL

-- what was tested holds, or else a condition fails
abbrev pub answer_of : {A : Type 0} → Result A condition.Condition → Verdict
answer_of (Ok a) = YES
answer_of (Err c) = NO (condition_of c)

abbrev pub judgement_of : verdict.Verdict → Judgement
judgement_of verdicts.Yes = JUDGED YES
judgement_of (verdicts.No c) = JUDGED (NO (condition_of c))
judgement_of (verdicts.Refused c) = DECLINED (cause_of c)

abbrev pub number_of : verdict.Verdict → ℕ
number_of v = judgement_number (judgement_of v)

abbrev pub place_of : verdict.Verdict → ℕ
place_of v = judgement_place (judgement_of v)

-- what a test that must hold answers
abbrev pub Required : {A E : Type 0} → Bool → E → Result A E → Type 0
Required test error (Ok a) = test ≡ true
Required test error (Err e) = (test ≡ false) × (e ≡ error)
