use Rattle.plan.proofs.SettleLaws.{passes, fails}
use Rattle.plan.proofs.searching.judged.Goals as goal

pub returns-in-Ok : goal.returns-in-Ok
returns-in-Ok c = λ room e h. passes _ _ room e _ _ h c.in-Ok.ensures

pub returns-in-Err : goal.returns-in-Err
returns-in-Err c = λ room e h. fails _ _ room e _ _ h _ c.in-Err.ensures
