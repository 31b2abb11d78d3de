use Rattle.std.proofs.Common.{◌∙◌}
use Rattle.certificate.proofs.SlackLaws.{bits_full, bits_result, slack_sum}
use Rattle.certificate.proofs.trial.Trial.full_slack.Goals as goal

pub overflow_add-result-2 : goal.overflow_add-result-2
overflow_add-result-2 c =
    bits_full c.dual_of.result c.dual_of-2.result c.weight_of-w.result c.common_duals-common.result c.dual_of.ensures.near c.dual_of-2.ensures.near
    c.weight_of-w.ensures.near c.common_duals-common.ensures.near

pub returns : goal.returns
returns c =
    bits_result c.dual_of.result c.dual_of-2.result c.weight_of-w.result c.common_duals-common.result c.dual_of.ensures.near c.dual_of-2.ensures.near
    c.weight_of-w.ensures.near c.common_duals-common.ensures.near
    ∙ rw (
      c.dual_of.ensures.dual,
      c.dual_of-2.ensures.dual,
      c.weight_of-w.ensures.weight,
      c.common_duals-common.ensures.sum,
      c.number.ensures,
      c.number-2.ensures,
      c.first_of-a.ensures.node,
      c.second_of-b.ensures.node,
      c.args.self.now.same_nodes,
      slack_sum,
    )
