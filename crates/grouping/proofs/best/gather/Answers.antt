use Rattle.std.proofs.Common.{rules}
use Rattle.state.specs.Parts.{state_of}
use Rattle.grouping.proofs.ChildLaws.{gather_lost, gather_ends}
use Rattle.grouping.proofs.best.gather.Goals as goal

pub returns-in_err-consider_child-clause-said : goal.returns-in_err-consider_child-clause-said
returns-in_err-consider_child-clause-said c at =
    let a = c.args in
    let e = gather_lost a.g.now a.new a.c a.links.now.links (state_of a.lists.now at) (c.in_err-consider_child.ensures.said at) in
    search (e, rules)

pub returns-clause-said : goal.returns-clause-said
returns-clause-said c at =
    let a = c.args in
    gather_ends a.g.now a.new a.c a.links.now.links (state_of a.lists.now at) _ _ _ c.put_best.result (c.in_ok-consider_child.ensures.said at)
    (c.in_ok-clear_best_list.ensures.said at) (rw (c.number.ensures, c.of.ensures) at (c.put_best.ensures.said at))
