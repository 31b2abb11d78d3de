use Rattle.std.proofs.Common.{◌≡◌, true, rules, sym, ◌∙◌}
use Rattle.certificate.proofs.JudgeLaws.{duals_are, duals_near, climbing_of}
use Rattle.certificate.proofs.judge.Goals as goal

pub judge_sums-requires-clause-near : goal.judge_sums-requires-clause-near
judge_sums-requires-clause-near c =
    let d : c.duals_pass.result ≡ true = search rules in
    duals_near _ c.args.first.now c.args.second.now c.args.weight.now c.args.flag c.args.mates.now _ c.args.parents.now c.requires.duals
    (sym (duals_are _ _ _ _ _ _ _ _) ∙ sym c.duals_pass.ensures ∙ d)

pub judge_sums-requires-clause-climbing : goal.judge_sums-requires-clause-climbing
judge_sums-requires-clause-climbing c =
    let p : c.parents_pass.result ≡ true = search rules in climbing_of _ _ c.requires.parents (sym p ∙ c.parents_pass.ensures)
