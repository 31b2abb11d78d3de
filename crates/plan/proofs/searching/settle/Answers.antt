use Rattle.std.proofs.lemmas.Result.{err_from_is_err_and}
use Rattle.plan.proofs.SettleLaws.{stops}
use Rattle.plan.proofs.searching.settle.Goals as goal

pub returns-in_err-steps-clause-said : goal.returns-in_err-steps-clause-said
returns-in_err-steps-clause-said c =
    let p = err_from_is_err_and c.from_residual.result c.from_residual.ensures.1 in
    λ room. rw (p.1, p.2) (stops _ _ room _ c.args.request.now.n _ c.search_edges.new.found.certificate _ c.in_err-steps.ensures.said)
