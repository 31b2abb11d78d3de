use Rattle.std.proofs.Common.{rules, ◌∙◌, ◌≢◌, length, arith}
use Rattle.std.proofs.lemmas.Grind.{common_steps}
use Rattle.state.specs.Parts.{state_of}
use Rattle.grouping.proofs.ChildLaws.{own_some}
use Rattle.grouping.proofs.consider.consider_child.Goals as goal

pub returns-in_err-consider_edges-clause-said : goal.returns-in_err-consider_edges-clause-said
returns-in_err-consider_edges-clause-said c at =
    let a = c.args in
    let m : length c.in_ok-own.own.now ≢ 0 = grind (arith, common_steps) in
    let e = own_some a.g.now (state_of a.lists.now at) a.new a.c a.links.now.links c.in_ok-own.own.now c.in_ok-own.ensures.said m
    ∙ c.in_err-consider_edges.ensures.said at in
    search (e, rules)

pub returns-in_ok-consider_edges-clause-said : goal.returns-in_ok-consider_edges-clause-said
returns-in_ok-consider_edges-clause-said c at =
    let a = c.args in
    let m : length c.in_ok-own.own.now ≢ 0 = grind (arith, common_steps) in
    own_some a.g.now (state_of a.lists.now at) a.new a.c a.links.now.links c.in_ok-own.own.now c.in_ok-own.ensures.said m
    ∙ c.in_ok-consider_edges.ensures.said at
