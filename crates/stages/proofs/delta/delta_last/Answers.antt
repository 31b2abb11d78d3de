use Rattle.std.proofs.Common.{rules, ◌≡◌, ap, arith, w64}
use mir.ValLaws.{to_z-of_z}
use Rattle.laws.proofs.Integers.{fits_near}
use Rattle.state.specs.Parts.{Size, state_of}
use Rattle.stages.proofs.Amounts.{last_least}
use Rattle.stages.proofs.delta.delta_last.Goals as goal

pub returns-in_ok-d-in-None-clause-said : goal.returns-in_ok-d-in-None-clause-said
returns-in_ok-d-in-None-clause-said c here =
    let a = c.args in let k = c.in_ok-d-in-None in
    let plain = to_z-of_z w64 k.d (fits_near k.d (omega (arith, k.ensures.near))) in
    let n : a.lists.now.labels.size.nodes ≡ a.g.now.nodes = ap (λ (z : Size). z.nodes) c.requires.size in
    let said = rw (c.node_duals.ensures.said, n) at k.ensures.said in
    rw (to_z-of_z w64 c.max.result (search rules), c.max.ensures.value, plain, c.in-None.is) (last_least a.g.now (state_of a.lists.now here) k.d said)
