use Rattle.std.proofs.Common.{rules, ◌∙◌}
use Rattle.edges.proofs.Lent.{lent_endpoint}
use Rattle.edges.proofs.graph.Graph.endpoint.Goals as goal

pub returns-in_err-v : goal.returns-in_err-v
returns-in_err-v c =
    let e = lent_endpoint _ _ _ _ c.self.view_is c.self.invariant.pairs c.args.p in search (e, rules)

pub returns : goal.returns
returns c = rw (← c.number.ensures, c.of.ensures) (lent_endpoint _ _ _ _ c.self.view_is c.self.invariant.pairs c.number.result ∙ c.in_ok-v.ensures.said)
