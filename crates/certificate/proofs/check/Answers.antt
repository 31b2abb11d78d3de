use Rattle.std.proofs.Common.{sym, ap, ◌∙◌, arith, length-take-le}
use Rattle.steps.specs.Check.{JUDGED, room_of, read_of}
use Rattle.certificate.specs.Lists.{certificate_of}
use Rattle.certificate.specs.View.{intake_of, answer_of, cause_of}
use Rattle.certificate.proofs.JudgeLaws.{declined, judged, taken_in, known, weighed}
use Rattle.certificate.proofs.check.Goals as goal

pub returns-in-Err : goal.returns-in-Err
unfolding room_of
returns-in-Err c =
    declined c.args.n c.args.first.now c.args.second.now c.args.weight.now c.args.max_cardinality
    (certificate_of c.args.mates.now c.args.duals.now c.args.parents.now)
    (cause_of c.in-Err.cause) (sym (ap intake_of c.in-Err.is) ∙ c.refusal.ensures)

pub overflow_mul-k : goal.overflow_mul-k
overflow_mul-k c =
    let f = sym (ap intake_of c.in_default.is) ∙ c.refusal.ensures in
    omega (arith, (known _ _ _ _ _ f).few_nodes)

pub slice_bounds-m-end : goal.slice_bounds-m-end
slice_bounds-m-end c =
    let f = sym (ap intake_of c.in_default.is) ∙ c.refusal.ensures in
    sym (length-take-le _ _ (taken_in _ _ _ _ _ f).mates_fit)

pub slice_bounds-d-end : goal.slice_bounds-d-end
slice_bounds-d-end c =
    let f = sym (ap intake_of c.in_default.is) ∙ c.refusal.ensures in
    sym (length-take-le _ _ (taken_in _ _ _ _ _ f).duals_fit)

pub slice_bounds-p-end : goal.slice_bounds-p-end
slice_bounds-p-end c =
    let f = sym (ap intake_of c.in_default.is) ∙ c.refusal.ensures in
    sym (length-take-le _ _ (taken_in _ _ _ _ _ f).parents_fit)

pub overflow_cast-n : goal.overflow_cast-n
overflow_cast-n c =
    let f = sym (ap intake_of c.in_default.is) ∙ c.refusal.ensures in
    omega (arith, (known _ _ _ _ _ f).few_nodes)

pub judge-requires-clause-known : goal.judge-requires-clause-known
judge-requires-clause-known c =
    let f = sym (ap intake_of c.in_default.is) ∙ c.refusal.ensures in
    known _ _ _ _ _ f

pub judge-requires-clause-weighed : goal.judge-requires-clause-weighed
judge-requires-clause-weighed c =
    let f = sym (ap intake_of c.in_default.is) ∙ c.refusal.ensures in
    weighed _ _ _ _ _ f

pub judge-requires-clause-mates : goal.judge-requires-clause-mates
judge-requires-clause-mates c =
    let f = sym (ap intake_of c.in_default.is) ∙ c.refusal.ensures in
    length-take-le _ _ (taken_in _ _ _ _ _ f).mates_fit

pub judge-requires-clause-duals : goal.judge-requires-clause-duals
judge-requires-clause-duals c =
    let f = sym (ap intake_of c.in_default.is) ∙ c.refusal.ensures in
    length-take-le _ _ (taken_in _ _ _ _ _ f).duals_fit

pub judge-requires-clause-parents : goal.judge-requires-clause-parents
judge-requires-clause-parents c =
    let f = sym (ap intake_of c.in_default.is) ∙ c.refusal.ensures in
    length-take-le _ _ (taken_in _ _ _ _ _ f).parents_fit

pub returns-in-Ok : goal.returns-in-Ok
unfolding room_of read_of
returns-in-Ok c =
    let f = sym (ap intake_of c.in_default.is) ∙ c.refusal.ensures in
    ap JUDGED (sym (ap answer_of c.in-Ok.is) ∙ c.judge.ensures)
    ∙ judged c.args.n c.args.first.now c.args.second.now c.args.weight.now c.args.max_cardinality
    (certificate_of c.args.mates.now c.args.duals.now c.args.parents.now) f

pub returns-in-Err-judge : goal.returns-in-Err-judge
unfolding room_of read_of
returns-in-Err-judge c =
    let f = sym (ap intake_of c.in_default.is) ∙ c.refusal.ensures in
    ap JUDGED (sym (ap answer_of c.in-Err-judge.is) ∙ c.judge.ensures)
    ∙ judged c.args.n c.args.first.now c.args.second.now c.args.weight.now c.args.max_cardinality
    (certificate_of c.args.mates.now c.args.duals.now c.args.parents.now) f
