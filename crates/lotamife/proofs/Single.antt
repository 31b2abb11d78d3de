-- The contracts of the two calls allow one result: what `lotamife_plan` writes for one plan is the same (`plan_single`). Those of
-- `lotamife_check` say what both of its numbers are, and so allow one of each. The numbers tell all: two answers of the plan call with the same
-- number, place and steps are equal (plan/proofs/Single), and two verdicts with the same number and place (certificate/proofs/Single).
use mathlib.Core.Path.{◌≡◌, sym, ◌∙◌}
use mathlib.Core.List.{List}
use Prim.Native.Nat.{ℕ}
use lib.IntN.{ℤ}
use Rattle.steps.specs.Plan.{Plan}
use Rattle.steps.specs.Check.{Judgement, judgement_number, judgement_place}
use Rattle.lotamife.specs.View.{Planned}

pub plan_single : (x : Plan) {k k' e e' s s' : ℕ} {m m' : List ℕ} {d d' : List ℤ} {p p' : List ℕ} → Planned x k e s m d p → Planned x k' e' s' m' d' p'
    → (k ≡ k') × (e ≡ e') × (s ≡ s') × (m ≡ m') × (d ≡ d') × (p ≡ p')
plan_single x a b = (
  a.numbered ∙ sym b.numbered,
  a.placed ∙ sym b.placed,
  a.counted ∙ sym b.counted,
  a.mated ∙ sym b.mated,
  a.weighed ∙ sym b.weighed,
  a.held ∙ sym b.held,
)

-- what the contract of `lotamife_check` says of its two numbers
abbrev Checked : Judgement → (number place : ℕ) → Type 0
Checked j k e = (k ≡ judgement_number j) × (e ≡ judgement_place j)

pub check_single : (j : Judgement) {k k' e e' : ℕ} → Checked j k e → Checked j k' e' → (k ≡ k') × (e ≡ e')
check_single j a b = (a.0 ∙ sym b.0, a.1 ∙ sym b.1)
