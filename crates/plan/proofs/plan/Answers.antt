use Rattle.std.proofs.Common.{arith, ◌∙◌, ◌<◌, length}
use Rattle.certificate.specs.Lists.{room}
use Rattle.certificate.specs.View.{cause_of}
use Rattle.certificate.proofs.JudgeLaws.{known, weighed}
use Rattle.plan.specs.declared.answers.Answer.TheVariants.{Done, Refused}
use Rattle.plan.proofs.CallLaws.{same_room, lists_cleared, refused_plan, empty_plan, edges_plan}
use Rattle.plan.proofs.Passing.{lists_agree}
use Rattle.plan.proofs.plan.Goals as goal

pub returns-in-Err-clause-said : goal.returns-in-Err-clause-said
returns-in-Err-clause-said c =
    refused_plan _ _ _ c.clear.ensures c.clear_duals.ensures c.clear-2.ensures _ _ _ _ _ _ (cause_of c.in-Err.cause) c.in-Err.ensures

pub returns-then-first-eq0-clause-said : goal.returns-then-first-eq0-clause-said
returns-then-first-eq0-clause-said c =
    empty_plan _ _ _ c.clear.ensures c.clear_duals.ensures c.clear-2.ensures _ _ _ _ _ _ c.in_default.ensures c.if-first-eq0.true

pub returns-in-Err-clause-agreed : goal.returns-in-Err-clause-agreed
returns-in-Err-clause-agreed c =
    lists_agree _ _ _ _ (Refused c.in-Err.cause) _ _ _ _ _ _ (returns-in-Err-clause-said c)
    (same_room _ _ _ c.clear.ensures c.clear_duals.ensures c.clear-2.ensures)

pub returns-then-first-eq0-clause-agreed : goal.returns-then-first-eq0-clause-agreed
returns-then-first-eq0-clause-agreed c =
    lists_agree _ _ _ _ (Done 0) _ _ _ _ _ _ (returns-then-first-eq0-clause-said c)
    (same_room _ _ _ c.clear.ensures c.clear_duals.ensures c.clear-2.ensures)

pub overflow_cast-request : goal.overflow_cast-request
overflow_cast-request c = record { fits = omega (arith, (known _ _ _ _ _ c.in_default.ensures).few_nodes) }

pub invariant_of-request : goal.invariant_of-request
invariant_of-request c =
    let f = c.in_default.ensures in
    record { known = known _ _ _ _ _ f; weighed = weighed _ _ _ _ _ f; some_edge = omega (arith, c.if-first-eq0.false) }

pub plan_edges-requires : goal.plan_edges-requires
plan_edges-requires c = lists_cleared _ _ _ c.clear.ensures c.clear_duals.ensures c.clear-2.ensures _ _ _ _ c.in_default.ensures

pub returns-clause-said : goal.returns-clause-said
returns-clause-said c =
    let l : 0 < length c.args.first.now = omega (arith, c.if-first-eq0.false) in
    c.plan_edges.ensures ∙ edges_plan _ _ _ c.clear.ensures c.clear_duals.ensures c.clear-2.ensures _ _ _ _ _ _ c.in_default.ensures l

pub returns-clause-agreed : goal.returns-clause-agreed
returns-clause-agreed c =
    let l = c.plan_edges.auto in
    lists_agree _ _ _ _ c.plan_edges.result _ _ _ _ _ _ (returns-clause-said c)
    ((λ i. room (l.mates i) (l.duals i) (l.parents i)) ∙ same_room _ _ _ c.clear.ensures c.clear_duals.ensures c.clear-2.ensures)
