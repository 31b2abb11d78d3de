use Rattle.std.proofs.Common.{rules, arith, refl, ◌∙◌}
use Rattle.std.proofs.lemmas.Iterator.{YieldsList-from_range, serves_from_Range}
use Rattle.std.proofs.lemmas.Iterator.Search.{all_from_yields_List}
use Rattle.matching.specs.Tests.{mate_test}
use Rattle.certificate.specs.Trial.{graph}
use Rattle.laws.proofs.Loops.{all_ranged}
use Rattle.certificate.proofs.edges.Edges.mates_pass.Goals as goal

pub all-requires-clause-callable : goal.all-requires-clause-callable
all-requires-clause-callable c = serves_from_Range (λ x q k. search rules) (λ x a b. search rules)

pub returns : goal.returns
returns c =
    all_from_yields_List (mate_test (graph c.args.self.now) c.args.mates.now) _ _ _ c.all.ensures.ran
    (YieldsList-from_range 0 c.args.self.now.nodes _ refl (omega arith)) (λ x b q k. search rules) ∙ all_ranged _ 0 c.args.self.now.nodes
