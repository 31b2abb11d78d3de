use Rattle.std.proofs.Common.{sym, ap, ◌∙◌, take}
use Rattle.steps.specs.Check.{Judgement, DECLINED}
use Rattle.steps.specs.Refusals.{Refusal}
use Rattle.certificate.specs.Lists.{certificate_of}
use Rattle.entries.proofs.CallLaws.{check_over, check_within}
use Rattle.entries.proofs.check_lists.Goals as goal

pub returns-then-m-gt2048 : goal.returns-then-m-gt2048
returns-then-m-gt2048 c =
    let a = c.args in
    ap {B = Judgement} (λ (r : Refusal). DECLINED r) c.too_many.ensures
    ∙ sym (check_over a.n a.s.count (take a.s.count a.s.first) (take a.s.count a.s.second) (take a.s.count a.s.weight) a.max_cardinality
    (certificate_of a.mates.now a.duals.now a.parents.now) c.if-m-gt2048.true)

pub returns : goal.returns
returns c =
    let a = c.args in
    c.check.ensures
    ∙ sym (check_within a.n a.s.count (take a.s.count a.s.first) (take a.s.count a.s.second) (take a.s.count a.s.weight) a.max_cardinality
    (certificate_of a.mates.now a.duals.now a.parents.now) c.if-m-gt2048.false)
