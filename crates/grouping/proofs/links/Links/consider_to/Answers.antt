use Rattle.std.proofs.Common.{rules, ◌≤◌, length, arith}
use Rattle.steps.specs.State.{Progress, opening}
use Rattle.state.specs.Parts.{state_of}
use Rattle.grouping.proofs.LinkLaws.{links_few, label_other, insert_lost, insert_tighter, insert_looser, insert_over, insert_more, fit_more}
use Rattle.grouping.proofs.links.Links.consider_to.Goals as goal

pub returns-then-l-ne1-clause-said : goal.returns-then-l-ne1-clause-said
returns-then-l-ne1-clause-said c at =
    let s = c.self.inside in let a = c.args in let j = c.number-k.result in
    let n = rw (← c.self.view_is) at c.requires.0 in
    let k = links_few s.n s.edges.now s.towards.now s.seat.now s.len c.self.invariant in
    let few : length a.self.now.links ≤ a.g.now.nodes = rw (← c.self.view_is) (omega (arith, n, k)) in
    rw (← c.number-k.ensures)
    (label_other a.g.now (state_of a.lists.now at) j a.e a.self.now.links c.in_ok-l.l c.in_ok-l.ensures.said c.if-l-ne1.true few)

pub returns-in_err-tight-clause-said : goal.returns-in_err-tight-clause-said
returns-in_err-tight-clause-said c at =
    let a = c.args in let j = c.number-k.result in
    let n = rw (← c.self.view_is) at c.requires.0 in
    let near = rw c.requires.1 at c.in_ok-l.ensures.near in
    let e = insert_lost a.g.now (state_of a.lists.now at) j a.e n c.self.invariant near c.in_ok-l.ensures.said c.if-l-ne1.false
    c.if-at-len.true (rw c.of.ensures at c.in_err-tight.ensures) in
    rw (← c.number-k.ensures) (search (← c.self.view_is, e, rules))

pub returns-then-tight-clause-said : goal.returns-then-tight-clause-said
returns-then-tight-clause-said c at =
    let a = c.args in let j = c.number-k.result in
    let n = rw (← c.self.view_is) at c.requires.0 in
    let near = rw c.requires.1 at c.in_ok-l.ensures.near in
    rw (← c.number-k.ensures, ← c.self.view_is, c.number.ensures)
    (insert_tighter a.g.now (state_of a.lists.now at) j a.e n c.self.invariant near c.in_ok-l.ensures.said c.if-l-ne1.false
    c.if-at-len.true (rw (c.if-tight.true, c.of.ensures) at c.in_ok-tight.ensures))

pub returns-else-tight-clause-said : goal.returns-else-tight-clause-said
returns-else-tight-clause-said c at =
    let a = c.args in let j = c.number-k.result in
    let n = rw (← c.self.view_is) at c.requires.0 in
    let near = rw c.requires.1 at c.in_ok-l.ensures.near in
    rw (← c.number-k.ensures, ← c.self.view_is)
    (insert_looser a.g.now (state_of a.lists.now at) j a.e n c.self.invariant near c.in_ok-l.ensures.said c.if-l-ne1.false
    c.if-at-len.true (rw (c.if-tight.false, c.of.ensures) at c.in_ok-tight.ensures))

pub returns-then-len-self-clause-said : goal.returns-then-len-self-clause-said
returns-then-len-self-clause-said c at =
    let a = c.args in let j = c.number-k.result in
    let n = rw (← c.self.view_is) at c.requires.0 in
    let near = rw c.requires.1 at c.in_ok-l.ensures.near in
    rw (← c.number-k.ensures, ← c.self.view_is)
    (insert_over a.g.now (state_of a.lists.now at) j a.e n c.self.invariant near c.in_ok-l.ensures.said c.if-l-ne1.false
    c.if-at-len.false c.if-len-self.true)

pub returns-clause-said : goal.returns-clause-said
returns-clause-said c at =
    let a = c.args in let j = c.number-k.result in
    let n = rw (← c.self.view_is) at c.requires.0 in
    let near = rw c.requires.1 at c.in_ok-l.ensures.near in
    rw (← c.number-k.ensures, ← c.self.view_is, c.number-2.ensures)
    (insert_more a.g.now (state_of a.lists.now at) j a.e n c.self.invariant near c.in_ok-l.ensures.said c.if-l-ne1.false
    c.if-at-len.false c.if-len-self.false)

pub invariant_of-self-2 : goal.invariant_of-self-2
invariant_of-self-2 c =
    let at : Progress = record { stage = 0; phase = opening } in
    let a = c.args in let j = c.number-k.result in
    let n = rw (← c.self.view_is) at c.requires.0 in
    let near = rw c.requires.1 at c.in_ok-l.ensures.near in
    rw c.number-2.ensures
    (fit_more a.g.now (state_of a.lists.now at) j a.e n c.self.invariant near c.in_ok-l.ensures.said c.if-l-ne1.false
    c.if-at-len.false c.if-len-self.false)
