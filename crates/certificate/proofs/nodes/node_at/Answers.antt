use Rattle.std.proofs.Common.{eq-eqb, ne_eqb}
use Rattle.certificate.specs.Lists.{end_node}
use Rattle.certificate.proofs.nodes.node_at.Goals as goal

pub returns-then-number-eq1 : goal.returns-then-number-eq1
unfolding end_node
returns-then-number-eq1 c =
    rw (c.of.ensures, c.number-e.ensures, c.edge.ensures, ← c.number.ensures, eq-eqb _ _ c.if-number-eq1.true)

pub returns-else-number-eq1 : goal.returns-else-number-eq1
unfolding end_node
returns-else-number-eq1 c =
    rw (c.of-else-number-eq1.ensures, c.number-e.ensures, c.edge.ensures, ← c.number.ensures, ne_eqb _ _ c.if-number-eq1.false)
