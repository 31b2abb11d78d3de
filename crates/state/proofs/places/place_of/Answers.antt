use Rattle.std.proofs.Common.{rules, eqb}
use Rattle.std.proofs.lemmas.Iterator.{YieldsList-from_slice}
use Rattle.std.proofs.lemmas.Iterator.Search.{position_from_yields_List}
use Rattle.state.proofs.PlaceLaws.{place_found, place_none}
use Rattle.state.proofs.places.place_of.Goals as goal

pub returns-in_err-i-clause-said : goal.returns-in_err-i-clause-said
returns-in_err-i-clause-said c =
    let t = c.args.t in
    let all = YieldsList-from_slice c.args.kids.now c.iter.ensures.rest in
    let r = position_from_yields_List (λ y. eqb y t) _ _ c.position.result c.position.ensures.ran all (λ x b q k. search rules) in
    let none = place_none t c.args.kids.now c.position.result r (search rules) in search rules

pub returns-clause-said : goal.returns-clause-said
returns-clause-said c =
    let t = c.args.t in
    let all = YieldsList-from_slice c.args.kids.now c.iter.ensures.rest in
    let r = position_from_yields_List (λ y. eqb y t) _ _ c.position.result c.position.ensures.ran all (λ x b q k. search rules) in
    place_found t c.args.kids.now c.position.result r c.in_ok-i.i (search rules)
