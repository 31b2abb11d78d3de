use Rattle.std.proofs.Common.{sym, ◌∙◌, length, take}
use Rattle.certificate.specs.Lists.{room}
use Rattle.entries.proofs.CallLaws.{plan_over, plan_within, refused_plan}
use Rattle.entries.proofs.plan_lists.Goals as goal

pub returns-then-m-gt2048 : goal.returns-then-m-gt2048
returns-then-m-gt2048 c =
    let a = c.args in
    refused_plan (length a.mates.now) (length a.duals.now) (length a.parents.now) c.requires.mates c.requires.duals c.requires.parents
    c.too_many.ensures
    ∙ sym (plan_over a.n a.s.count (take a.s.count a.s.first) (take a.s.count a.s.second) (take a.s.count a.s.weight) a.max_cardinality
    (room (length a.mates.now) (length a.duals.now) (length a.parents.now)) a.budget c.if-m-gt2048.true)

pub returns : goal.returns
returns c =
    let a = c.args in
    c.plan.ensures.said
    ∙ sym (plan_within a.n a.s.count (take a.s.count a.s.first) (take a.s.count a.s.second) (take a.s.count a.s.weight) a.max_cardinality
    (room (length a.mates.now) (length a.duals.now) (length a.parents.now)) a.budget c.if-m-gt2048.false)
