use Rattle.std.proofs.Common.{eq-eqb, ne_eqb, le-leb}
use borrow.Author.Tests.{lt-leb}
use Rattle.certificate.specs.Lists.{parent_named}
use Rattle.certificate.proofs.nodes.parent_named.Goals as goal

pub returns-then-p-eq-MISSING : goal.returns-then-p-eq-MISSING
unfolding parent_named
returns-then-p-eq-MISSING c = rw (eq-eqb _ _ c.if-p-eq-MISSING.true)

pub returns-then-p-n : goal.returns-then-p-n
unfolding parent_named
returns-then-p-n c = rw (ne_eqb _ _ c.if-p-eq-MISSING.false, lt-leb _ _ c.if-p-n.true)

pub returns : goal.returns
unfolding parent_named
returns c = rw (ne_eqb _ _ c.if-p-eq-MISSING.false, le-leb _ _ c.if-p-n.false)
