use Rattle.std.proofs.Common.{arith}
use Rattle.std.proofs.lemmas.Grind.{common_steps}
use Rattle.state.proofs.Empty.{fresh}
use Rattle.state.proofs.forest.Forest.fresh.Goals as goal

pub invariant_of-result : goal.invariant_of-result
invariant_of-result c = record {
  in_tops = grind (arith, common_steps, fresh);
  in_parents = grind (arith, common_steps, fresh);
  in_bases = grind (arith, common_steps, fresh);
  in_children = grind (arith, common_steps, fresh);
  in_ring_ends = grind (arith, common_steps, fresh);
  in_free = grind (arith, common_steps, fresh);
}
