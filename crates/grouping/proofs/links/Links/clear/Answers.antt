use Rattle.std.proofs.Common.{rules}
use Rattle.grouping.proofs.LinkLaws.{fit_none, none_paired}
use Rattle.grouping.proofs.links.Links.clear.Goals as goal

pub invariant_of-self : goal.invariant_of-self
invariant_of-self c =
    let s = c.self.inside in let i = c.self.invariant in
    fit_none s.n s.edges.now s.towards.now c.fill.new.self s.seat.now i.small i.edges_room i.towards_room i.seat_room (search rules)

pub returns : goal.returns
returns c = (none_paired, search (← c.self.view_is, rules))
