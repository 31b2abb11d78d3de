use Rattle.std.proofs.Common.{◌∙◌}
use Rattle.plan.proofs.FillLaws.{stopped_cleared, done_filled}
use Rattle.plan.proofs.plan_edges.Goals as goal

pub returns-in-Ok : goal.returns-in-Ok
returns-in-Ok c =
    let f = c.fill.ensures in
    done_filled _ _ _ _ c.requires _ _ c.settle-settled.new.found.certificate _ _ _ (c.in-Ok.ensures.nodes ∙ c.new-found.ensures) f.mates f.duals f.parents
    ∙ c.in-Ok.ensures.said _

pub returns-in-Err : goal.returns-in-Err
returns-in-Err c = stopped_cleared _ _ _ _ c.requires _ _ _ c.from.ensures ∙ c.in-Err.ensures.said _
