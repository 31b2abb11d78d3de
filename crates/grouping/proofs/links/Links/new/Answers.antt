use Rattle.std.proofs.Common.{rules, refl}
use Rattle.grouping.proofs.LinkLaws.{fit_none, none_paired}
use Rattle.grouping.proofs.links.Links.new.Goals as goal

pub invariant_of-result : goal.invariant_of-result
invariant_of-result c =
    let a = c.args in let p = c.requires in
    fit_none a.n a.edges.now a.towards.now c.fill.new.self a.seat.now p.0 p.1 p.2 p.3 (search rules)

pub returns : goal.returns
returns c = (none_paired, refl)
