use Rattle.certificate.specs.Trial.{graph, certificate}
use Rattle.certificate.proofs.SlackLaws.{Passing}
use Rattle.certificate.proofs.trial.Trial.slacks_pass.Given as goal

abbrev pub invariant-loop-e : goal.invariant-loop-e
invariant-loop-e l = Passing (graph l.self.edges) (certificate l.self) l.e l.all_tight
