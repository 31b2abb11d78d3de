use Rattle.std.proofs.Common.{rules, arith, refl, ◌≡◌, ◌∙◌}
use Rattle.std.proofs.lemmas.Iterator.{YieldsList-from_range}
use Rattle.std.proofs.lemmas.Iterator.Search.{all_from_yields_List}
use Rattle.laws.proofs.Loops.{all_ranged}
use Rattle.matching.specs.Tests.{mate_test, mates_pass}
use Rattle.augment.proofs.mates.mates_pass.Goals as goal

pub returns : goal.returns
unfolding mates_pass
returns c =
    let n = c.nodes.result in
    let e : n ≡ c.args.g.now.nodes = c.nodes.ensures.said in
    all_from_yields_List (mate_test c.args.g.now c.args.lists.now.pairing.lists.mates) _ _ _ c.all.ensures.ran
    (YieldsList-from_range 0 n n refl (omega arith)) (λ x b q k. search rules) ∙ all_ranged _ 0 n ∙ rw e refl
