-- The contracts of `check` and `judge` allow one result. A cause of a refusal, a condition and a verdict are known by number and place
-- (`same_cause`, `same_condition`, `same_verdict`); and so two verdicts that stand for the same judgement are equal, and two results of
-- `judge` that stand for the same verdict.
use Rattle.std.specs.Prelude.{if◌then◌else◌, Result, Ok, Err}
use mathlib.Core.Path.{◌≡◌, refl, sym, ap, ◌∙◌}
use Prim.Native.Nat.{ℕ}
use lib.Dec.{eqb, ltb}
use Rattle.matching.specs.Certificate.{condition_number}
use Rattle.matching.specs.Tests.{Verdict, YES, NO}
use Rattle.steps.specs.Refusals.{refusal_number, refusal_place}
use Rattle.steps.specs.Check.{judgement_number, judgement_place}
use Rattle.certificate.specs.View.{cause_of, condition_of, answer_of, judgement_of, number_of, place_of}
use Rattle.certificate.specs.declared.answers.Cause.{Cause}
use Rattle.certificate.specs.declared.answers.Cause.TheVariants as causes
use Rattle.certificate.specs.declared.answers.Condition.{Condition}
use Rattle.certificate.specs.declared.answers.Condition.TheVariants as conditions
use Rattle.certificate.specs.declared.answers.Verdict.{Verdict as Answer}
use Rattle.certificate.specs.declared.answers.Verdict.TheVariants as answers

-- ---- of a number and a place

pub cause_at : (number place : ℕ) → Cause
cause_at k p =
    if eqb k 1 then causes.Nodes
    else if eqb k 2 then causes.Edges
    else if eqb k 3 then causes.End p
    else if eqb k 4 then causes.Loop p
    else if eqb k 5 then causes.Weight p
    else causes.Buffer

condition_at : (number : ℕ) → Condition
condition_at k =
    if eqb k 11 then conditions.Mate
    else if eqb k 12 then conditions.Parent
    else if eqb k 13 then conditions.Dual
    else if eqb k 14 then conditions.Edge
    else if eqb k 15 then conditions.Tight
    else if eqb k 16 then conditions.Free
    else conditions.Full

verdict_at : (number place : ℕ) → Answer
verdict_at k p =
    if eqb k 0 then answers.Yes
    else if ltb k 11 then answers.Refused (cause_at k p)
    else answers.No (condition_at k)

pub cause_back : (x : Cause) → cause_at (refusal_number (cause_of x)) (refusal_place (cause_of x)) ≡ x
unfolding cause_at
cause_back causes.Nodes = refl
cause_back causes.Edges = refl
cause_back causes.Buffer = refl
cause_back (causes.End e) = refl
cause_back (causes.Loop e) = refl
cause_back (causes.Weight e) = refl

condition_back : (x : Condition) → condition_at (condition_number (condition_of x)) ≡ x
unfolding condition_at
condition_back conditions.Mate = refl
condition_back conditions.Parent = refl
condition_back conditions.Dual = refl
condition_back conditions.Edge = refl
condition_back conditions.Tight = refl
condition_back conditions.Free = refl
condition_back conditions.Full = refl

verdict_back : (x : Answer) → verdict_at (number_of x) (place_of x) ≡ x
unfolding verdict_at cause_at condition_at
verdict_back answers.Yes = refl
verdict_back (answers.No conditions.Mate) = refl
verdict_back (answers.No conditions.Parent) = refl
verdict_back (answers.No conditions.Dual) = refl
verdict_back (answers.No conditions.Edge) = refl
verdict_back (answers.No conditions.Tight) = refl
verdict_back (answers.No conditions.Free) = refl
verdict_back (answers.No conditions.Full) = refl
verdict_back (answers.Refused causes.Nodes) = refl
verdict_back (answers.Refused causes.Edges) = refl
verdict_back (answers.Refused causes.Buffer) = refl
verdict_back (answers.Refused (causes.End e)) = refl
verdict_back (answers.Refused (causes.Loop e)) = refl
verdict_back (answers.Refused (causes.Weight e)) = refl

-- ---- what has the same number and place is the same

module _ (a b : Cause) where
  pub same_cause : refusal_number (cause_of a) ≡ refusal_number (cause_of b) → refusal_place (cause_of a) ≡ refusal_place (cause_of b) → a ≡ b
  same_cause k p = sym (cause_back a) ∙ (λ i. cause_at (k i) (p i)) ∙ cause_back b

module _ (a b : Condition) where
  pub same_condition : condition_number (condition_of a) ≡ condition_number (condition_of b) → a ≡ b
  same_condition k = sym (condition_back a) ∙ ap condition_at k ∙ condition_back b

module _ (a b : Answer) where
  pub same_verdict : number_of a ≡ number_of b → place_of a ≡ place_of b → a ≡ b
  same_verdict k p = sym (verdict_back a) ∙ (λ i. verdict_at (k i) (p i)) ∙ verdict_back b

  -- the calls
  pub check_single : judgement_of a ≡ judgement_of b → a ≡ b
  check_single e = same_verdict (ap judgement_number e) (ap judgement_place e)

judged : Verdict → Result (Unit {0}) Condition
judged YES = Ok tt
judged (NO c) = Err (condition_at (condition_number c))

judged_back : (x : Result (Unit {0}) Condition) → judged (answer_of x) ≡ x
unfolding judged
judged_back (Ok u) = refl
judged_back (Err c) = ap Err (condition_back c)

pub judge_single : (a b : Result (Unit {0}) Condition) → answer_of a ≡ answer_of b → a ≡ b
judge_single a b e = sym (judged_back a) ∙ ap judged e ∙ judged_back b
