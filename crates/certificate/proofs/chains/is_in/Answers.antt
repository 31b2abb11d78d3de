use Rattle.std.proofs.Common.{◌∙◌, eqb, rules, tests}
use Rattle.std.proofs.lemmas.Iterator.{YieldsList-from_slice}
use Rattle.std.proofs.lemmas.Iterator.Search.{any_from_yields_List}
use Rattle.certificate.proofs.RowLaws.{any_member}
use Rattle.certificate.proofs.chains.is_in.Goals as goal

pub returns : goal.returns
returns c =
    any_from_yields_List (λ y. eqb y c.args.x) _ _ _ c.any.ensures.ran
    (YieldsList-from_slice c.args.list.now cc) (λ x b q k. search (rules, tests)) ∙ any_member _ _
