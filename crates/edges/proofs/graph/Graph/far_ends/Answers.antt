use Rattle.std.proofs.Common.{◌<◌, ◌∙◌, sym, ap, arith}
use Rattle.matching.specs.Graph.{Graph}
use Rattle.edges.proofs.Lent.{lent_far}
use Rattle.edges.proofs.graph.Graph.far_ends.Goals as goal

pub returns-clause-said : goal.returns-clause-said
returns-clause-said c =
    let v = c.number-k.result in let i = c.self.invariant in
    let inside : v < c.self.inside.n = omega (arith, ap (λ (G : Graph). G.nodes) c.self.view_is, c.requires, c.number-k.ensures) in
    rw (← c.number-k.ensures) (i.neighbours.row v inside ∙ sym (lent_far _ _ _ _ c.self.view_is i.pairs v))
