use Rattle.std.proofs.Common.{sym, ◌∙◌}
use borrow.Author.Tests.{not-true, not-false}
use Rattle.certificate.proofs.ListLaws.{parents_all, named_listed, all_named}
use Rattle.certificate.proofs.nodes.parents_pass.Goals as goal

pub returns-then-not-parents_named : goal.returns-then-not-parents_named
returns-then-not-parents_named c =
    let e = c.parents_named.ensures ∙ named_listed _ _ c.requires.1 in
    rw (parents_all _ _ c.requires.1, ← e, not-true c.parents_named.result c.if-not-parents_named.true-raw)

pub climbs_end-requires : goal.climbs_end-requires
climbs_end-requires c =
    let e = c.parents_named.ensures ∙ named_listed _ _ c.requires.1 in
    (c.requires.0, all_named _ _ c.requires.1 (sym e ∙ c.if-not-parents_named.false))

pub returns : goal.returns
returns c =
    let e = c.parents_named.ensures ∙ named_listed _ _ c.requires.1 in
    rw (parents_all _ _ c.requires.1, ← e, not-false c.parents_named.result c.if-not-parents_named.false-raw, c.climbs_end.ensures)
