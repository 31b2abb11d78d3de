use Rattle.std.proofs.Common.{sym, ap, ◌∙◌}
use Rattle.steps.specs.Plan.{Plan, answer_number, answer_place}
use Rattle.steps.specs.Check.{judgement_number}
use Rattle.plan.specs.View.{answer_of}
use Rattle.lotamife.proofs.Zero.{zero_done}
use Rattle.lotamife.proofs.lotamife_plan.Goals as goal

pub returns-clause-said : goal.returns-clause-said
returns-clause-said c =
    let number = c.number in
    let steps = c.steps in
    let place = c.place in
    let said = c.plan-answer.ensures.said in
    record {
      numbered = number.ensures ∙ ap (λ (p : Plan). answer_number p.answer) said;
      placed = place.ensures ∙ ap (λ (p : Plan). answer_place p.answer) said;
      counted = steps.ensures ∙ ap (λ (p : Plan). p.steps) said;
      mated = ap (λ (p : Plan). p.mates) said;
      weighed = ap (λ (p : Plan). p.duals) said;
      held = ap (λ (p : Plan). p.parents) said;
    }

pub returns-clause-agreed : goal.returns-clause-agreed
returns-clause-agreed c =
    λ z. ap judgement_number (c.plan-answer.ensures.agreed (zero_done (answer_of c.plan-answer.result) (sym c.number.ensures ∙ z)))
