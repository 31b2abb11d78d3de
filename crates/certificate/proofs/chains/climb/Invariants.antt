use Rattle.std.proofs.Common.{◌-◌}
use Rattle.certificate.proofs.TableLaws.{Rising}
use Rattle.certificate.proofs.chains.climb.Given as goal

abbrev pub invariant-loop-p : goal.invariant-loop-p
invariant-loop-p l = Rising l.n l.parents l.initial.pool l.row l.initial.p l.pool l.p l.k

abbrev pub decreases-loop-p : goal.decreases-loop-p
decreases-loop-p l = l.n - l.k
