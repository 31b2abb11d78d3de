use Rattle.std.proofs.Common.{pos, get_or, arith, w64}
use mir.ValLaws.{to_z-of_z}
use Rattle.laws.proofs.Integers.{fits_near}
use Rattle.edges.proofs.Lent.{lent_none, lent_edge}
use Rattle.edges.proofs.graph.Graph.edge.Goals as goal

pub returns-then-k-self-clause-said : goal.returns-then-k-self-clause-said
returns-then-k-self-clause-said c =
    rw (← c.number-k.ensures) (lent_none _ _ _ _ c.self.view_is c.self.invariant.pairs _ c.if-k-self.true)

pub returns-clause-said : goal.returns-clause-said
returns-clause-said c =
    let i = c.self.invariant in let k = c.number-k.result in let w = get_or c.self.inside.weights.now k (pos 0) in
    let plain = to_z-of_z w64 w (fits_near w (omega (arith, i.near.near k))) in
    rw (← c.number-k.ensures, c.of.ensures, c.of-2.ensures, plain) (lent_edge _ _ _ _ c.self.view_is i.pairs k c.if-k-self.false)
