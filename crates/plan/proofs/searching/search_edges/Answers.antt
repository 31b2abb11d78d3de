use Rattle.std.proofs.Common.{sym, arith, ◌∙◌}
use Rattle.plan.proofs.EndLaws.{count_made}
use Rattle.plan.proofs.searching.search_edges.Goals as goal

pub search_graph-requires-clause-allowed : goal.search_graph-requires-clause-allowed
search_graph-requires-clause-allowed c =
    let e = c.count-m.ensures in (
      c.requires.allowed ∙ sym (count_made _ _ _ _ _ _ c.new-g.ensures (c.lay_ends.ensures _ e.weights) e.seconds e.weights),
      omega (arith, c.requires.allowed, e.count, e.few),
    )
