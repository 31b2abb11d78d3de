use Rattle.std.proofs.Common.{◌≡◌, length}
use Rattle.certificate.proofs.TableLaws.{Filled}
use Rattle.certificate.proofs.chains.fill.Given as goal

abbrev pub invariant-loop-v : goal.invariant-loop-v
invariant-loop-v l = record {
  filled : Filled l.n l.parents l.counts l.pool l.v;
  counts : length l.counts ≡ length l.initial.counts;
  pool : length l.pool ≡ length l.initial.pool;
}
