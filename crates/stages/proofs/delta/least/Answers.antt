use Rattle.std.proofs.lemmas.Iterator.{YieldsList-from_slice}
use Rattle.std.proofs.lemmas.Iterator.Consumers.{YieldsList-from_copied, reduce_from_yields_List}
use Rattle.std.specs.Ordering.{int_cmp, min_by_ordering}
use Rattle.stages.proofs.Amounts.{least_told}
use Rattle.stages.proofs.delta.least.Goals as goal

pub returns-clause-said : goal.returns-clause-said
returns-clause-said c =
    let ds = c.args.duals.now in
    rw c.ok_or.ensures.value
    (least_told ds c.min.result _ (reduce_from_yields_List (λ p z. min_by_ordering (int_cmp p z) p z) _ c.min.result c.min.ensures.ran
    (YieldsList-from_copied (YieldsList-from_slice ds cc))))
