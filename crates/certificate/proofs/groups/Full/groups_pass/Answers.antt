use Rattle.std.proofs.Common.{rules, arith, refl, ◌∙◌, ◌*◌}
use Rattle.std.proofs.lemmas.Iterator.{YieldsList-from_range, serves_from_Range}
use Rattle.std.proofs.lemmas.Iterator.Search.{all_from_yields_List}
use Rattle.matching.specs.Tests.{full_test}
use Rattle.certificate.specs.Trial.{graph, certificate}
use Rattle.laws.proofs.Loops.{all_ranged}
use Rattle.certificate.proofs.groups.Full.groups_pass.Goals as goal

pub all-requires-clause-callable : goal.all-requires-clause-callable
all-requires-clause-callable c = serves_from_Range (λ x q k. search rules) (λ x a b. search rules)

pub returns : goal.returns
returns c =
    let t = c.args.self.now.trial.now in let n = t.edges.nodes in
    all_from_yields_List (full_test (graph t.edges) (certificate t)) _ _ _ c.all.ensures.ran
    (YieldsList-from_range n (2 * n) n refl (omega arith)) (λ x b q k. search rules) ∙ all_ranged _ n n
