use Rattle.std.proofs.Common.{rules}
use Rattle.state.specs.Parts.{state_of}
use Rattle.search.proofs.JoinLaws.{join_adds, join_adds_not, join_augments, join_augments_not}
use Rattle.search.proofs.visits.join.Goals as goal

pub returns-in_err-add_group-clause-said : goal.returns-in_err-add_group-clause-said
returns-in_err-add_group-clause-said c at =
    let a = c.args in
    let e = join_adds_not a.g.now a.v a.w a.e (state_of a.lists.now at) c.in_ok-base.field-0 (c.in_ok-base.ensures.said at)
    c.in-Some.base c.in-Some.is (c.in_err-add_group.ensures.said at) in search rules

pub returns-in-Some-clause-said : goal.returns-in-Some-clause-said
returns-in-Some-clause-said c at =
    let a = c.args in
    join_adds a.g.now a.v a.w a.e (state_of a.lists.now at) c.in_ok-base.field-0 (c.in_ok-base.ensures.said at)
    c.in-Some.base _ c.in-Some.is (c.in_ok-add_group.ensures.said at)

pub returns-in_err-augment_matching-clause-said : goal.returns-in_err-augment_matching-clause-said
returns-in_err-augment_matching-clause-said c at =
    let a = c.args in
    let e = join_augments_not a.g.now a.v a.w a.e (state_of a.lists.now at) c.in_ok-base.field-0 (c.in_ok-base.ensures.said at)
    c.in_default.is (c.in_err-augment_matching.ensures.said at) in search rules

pub returns-clause-said : goal.returns-clause-said
returns-clause-said c at =
    let a = c.args in
    join_augments a.g.now a.v a.w a.e (state_of a.lists.now at) c.in_ok-base.field-0 (c.in_ok-base.ensures.said at)
    _ c.in_default.is (c.in_ok-augment_matching.ensures.said at)
