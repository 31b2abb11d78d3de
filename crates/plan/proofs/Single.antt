-- The contract of `plan` allows one result: an answer is known by number, place and steps (`same_answer`), and so two answers with their
-- lists that stand for the same plan are equal (`single`).
use Rattle.std.specs.Prelude.{if◌then◌else◌}
use mathlib.Core.Path.{◌≡◌, refl, sym, ap, ◌∙◌}
use mathlib.Core.List.{List}
use Prim.Native.Nat.{ℕ}
use lib.Dec.{eqb}
use lib.IntN.{ℤ}
use Rattle.steps.specs.Plan.{answer_number, answer_place, Plan}
use Rattle.certificate.specs.declared.answers.Cause.TheVariants as causes
use Rattle.certificate.proofs.Single.{cause_at, cause_back}
use Rattle.plan.specs.View.{number_of, place_of, steps_of, plan_of}
use Rattle.plan.specs.declared.answers.Answer.{Answer}
use Rattle.plan.specs.declared.answers.Answer.TheVariants as answers

-- the code's answer of a number, a place and steps
answer_at : (number place steps : ℕ) → Answer
answer_at k p s =
    if eqb k 0 then answers.Done s
    else if eqb k 7 then answers.Steps s
    else if eqb k 8 then answers.Fault s
    else answers.Refused (cause_at k p)

answer_back : (x : Answer) → answer_at (number_of x) (place_of x) (steps_of x) ≡ x
unfolding answer_at
answer_back (answers.Done k) = refl
answer_back (answers.Steps k) = refl
answer_back (answers.Fault k) = refl
answer_back (answers.Refused causes.Nodes) = ap answers.Refused (cause_back causes.Nodes)
answer_back (answers.Refused causes.Edges) = ap answers.Refused (cause_back causes.Edges)
answer_back (answers.Refused causes.Buffer) = ap answers.Refused (cause_back causes.Buffer)
answer_back (answers.Refused (causes.End e)) = ap answers.Refused (cause_back (causes.End e))
answer_back (answers.Refused (causes.Loop e)) = ap answers.Refused (cause_back (causes.Loop e))
answer_back (answers.Refused (causes.Weight e)) = ap answers.Refused (cause_back (causes.Weight e))

module _ (a b : Answer) where
  pub same_answer : number_of a ≡ number_of b → place_of a ≡ place_of b → steps_of a ≡ steps_of b → a ≡ b
  same_answer k p s = sym (answer_back a) ∙ (λ i. answer_at (k i) (p i) (s i)) ∙ answer_back b

  pub single : {m m' : List ℕ} {d d' : List ℤ} {p p' : List ℕ}
      → plan_of a m d p ≡ plan_of b m' d' p' → (a ≡ b) × (m ≡ m') × (d ≡ d') × (p ≡ p')
  single e = (
    same_answer (ap (λ (x : Plan). answer_number x.answer) e) (ap (λ (x : Plan). answer_place x.answer) e) (ap (λ (x : Plan). x.steps) e),
    ap (λ (x : Plan). x.mates) e,
    ap (λ (x : Plan). x.duals) e,
    ap (λ (x : Plan). x.parents) e,
  )
