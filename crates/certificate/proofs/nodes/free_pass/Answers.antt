use Rattle.std.proofs.Common.{rules, arith, refl, sym, ◌∙◌, not, ◌||◌, pos, get_or, ◌+ℤ◌}
use Rattle.std.proofs.lemmas.Iterator.{YieldsList-from_range, serves_from_Range}
use Rattle.std.proofs.lemmas.Iterator.Search.{all_from_yields_List}
use Rattle.laws.specs.Integers.{is_zero}
use Rattle.matching.specs.Graph.{is_missing}
use Rattle.certificate.proofs.ListLaws.{free_test_lem}
use Rattle.laws.proofs.Loops.{all_ranged, all_same}
use Rattle.certificate.proofs.nodes.free_pass.Goals as goal

pub offset-o-requires : goal.offset-o-requires
offset-o-requires c = (c.requires.0, c.requires.2)

pub all-requires-clause-callable : goal.all-requires-clause-callable
all-requires-clause-callable c = serves_from_Range (λ x q k. search rules) (λ x a b. search rules)

pub returns : goal.returns
returns c =
    all_from_yields_List (λ v. not (is_missing (get_or c.args.mates.now v 0)) || is_zero (get_or c.args.duals.now v (pos 0) +ℤ c.offset-o.result)) _ _ _
    c.all.ensures.ran (YieldsList-from_range 0 c.args.n _ refl (omega arith)) (λ x b q k. search rules) ∙ all_ranged _ 0 c.args.n
    ∙ all_same _ _ 0 c.args.n (λ v l h. sym (free_test_lem c.args.n c.args.flag c.args.mates.now c.args.duals.now v c.requires.1 (omega arith)
    ∙ rw (← c.offset-o.ensures.0) refl))
