use Rattle.certificate.proofs.SharedLaws.{Shared}
use Rattle.certificate.proofs.chains.Chains.common_duals.Given as goal

abbrev pub invariant-loop-i : goal.invariant-loop-i
invariant-loop-i l = Shared l.self.nodes l.self.parents.now l.duals l.fn.a l.fn.b l.i l.j l.sum

abbrev pub decreases-loop-i : goal.decreases-loop-i
decreases-loop-i l = l.i
