use Rattle.std.proofs.Common.{arith}
use Rattle.std.proofs.lemmas.Grind.{common_steps}
use Rattle.state.proofs.Empty.{fresh}
use Rattle.state.proofs.labelling.Labelling.fresh.Goals as goal

pub invariant_of-result : goal.invariant_of-result
invariant_of-result c = record {
  in_labels = grind (arith, common_steps, fresh);
  in_label_ends = grind (arith, common_steps, fresh);
  in_best = grind (arith, common_steps, fresh);
  in_best_lists = grind (arith, common_steps, fresh);
  in_allowed = grind (arith, common_steps, fresh);
  in_queue = grind (arith, common_steps, fresh);
}
