use Rattle.grouping.proofs.LinkLaws.{edges_are}
use Rattle.grouping.proofs.links.Links.edges.Goals as goal

pub returns-clause-said : goal.returns-clause-said
returns-clause-said c =
    let s = c.self.inside in
    rw (← c.self.view_is) (edges_are s.n s.edges.now s.towards.now s.seat.now s.len c.self.invariant)
