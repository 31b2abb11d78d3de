use Rattle.std.proofs.Common.{◌≡◌, rules, arith, sym, ◌∙◌, true, false, ◌<◌}
use Rattle.matching.specs.Graph.{edge_count}
use Rattle.certificate.specs.Trial.{graph, certificate}
use Rattle.certificate.proofs.SlackLaws.{passing_low, passing_next}
use Rattle.certificate.proofs.trial.Trial.slacks_pass.Goals as goal

pub returns-in_err-must : goal.returns-in_err-must
returns-in_err-must c =
    let f : c.edge_tests-edge.result.0 ≡ false = search rules in
    let h : c.loop-e.e < edge_count (graph c.args.self.now.edges) = omega (arith, c.count-e-end.ensures.count) in
    let v = passing_low (graph c.args.self.now.edges) (certificate c.args.self.now) c.loop-e.e c.loop-e.all_tight c.loop-e.invariant c.args.flag h
    (sym (rw c.of.ensures at c.edge_tests-edge.ensures.edge) ∙ f) in
    search (rules, v)

pub loop-e-preserved : goal.loop-e-preserved
loop-e-preserved c =
    let f : c.edge_tests-edge.result.0 ≡ true = search rules in
    let h : c.loop-e.e < edge_count (graph c.args.self.now.edges) = omega (arith, c.count-e-end.ensures.count) in
    passing_next _ _ c.loop-e.e _ c.loop-e.invariant _ h
    (sym (rw c.of.ensures at c.edge_tests-edge.ensures.edge) ∙ f) (rw c.of.ensures at c.edge_tests-edge.ensures.tight)
