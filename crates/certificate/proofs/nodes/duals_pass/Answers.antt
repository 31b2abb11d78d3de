use Rattle.std.proofs.Common.{rules, arith, refl, ◌∙◌, ◌*◌}
use Rattle.std.proofs.lemmas.Iterator.{YieldsList-from_range, serves_from_Range}
use Rattle.std.proofs.lemmas.Iterator.Search.{all_from_yields_List}
use Rattle.matching.specs.Tests.{dual_test}
use Rattle.certificate.specs.Lists.{bare}
use Rattle.laws.proofs.Loops.{all_ranged}
use Rattle.certificate.proofs.nodes.duals_pass.Goals as goal

pub all-requires-clause-callable : goal.all-requires-clause-callable
all-requires-clause-callable c = serves_from_Range (λ x q k. search rules) (λ x a b. search rules)

pub returns : goal.returns
returns c =
    all_from_yields_List (dual_test (bare c.args.n) c.args.flag c.args.duals.now) _ _ _ c.all.ensures.ran
    (YieldsList-from_range 0 (2 * c.args.n) _ refl (omega arith)) (λ x b q k. search rules) ∙ all_ranged _ 0 (2 * c.args.n)
