use Rattle.std.proofs.Common.{◌≡◌, arith}
use Rattle.std.proofs.lemmas.Grind.{common_steps}
use Rattle.state.specs.Parts.{state_of}
use Rattle.expand.proofs.RelabelLaws.{relabel_onto}
use Rattle.expand.proofs.relabel.relabel_from.Goals as goal

pub returns-clause-said : goal.returns-clause-said
returns-clause-said c at =
    let a = c.args in
    let two : c.in_ok-l.l ≡ 2 = grind (arith, common_steps) in
    let here : c.in_ok-t.t ≡ a.c = grind (arith, common_steps) in
    rw (relabel_onto a.g.now a.c a.v _ _ (state_of a.lists.now at) _ (rw c.number.ensures at c.in_ok-l.ensures.said) two
    c.in_ok-t.ensures.said here (rw c.number-2.ensures at (c.in_ok-put_label.ensures.said at)))
    (c.pass_on.ensures.said at)
