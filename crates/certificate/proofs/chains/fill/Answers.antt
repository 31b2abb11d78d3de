use Rattle.std.proofs.Common.{◌∙◌, length-set}
use Rattle.certificate.proofs.TableLaws.{filled_next}
use Rattle.certificate.proofs.chains.fill.Goals as goal

pub loop-v-preserved : goal.loop-v-preserved
loop-v-preserved c = record {
  filled = filled_next _ _ _ _ _ c.loop-v.v _ c.loop-v-test.true c.loop-v.invariant.filled (rw c.of.ensures at c.climb-k.ensures);
  counts = simp length-set c.loop-v.invariant.counts;
  pool = c.climb-k.ensures.as_long ∙ c.loop-v.invariant.pool;
}
