use Rattle.std.proofs.Common.{◌≡◌, ◌+◌, ◌≤◌, drop}
use Rattle.laws.specs.Lists.{bit, sum}
use Rattle.matching.specs.Certificate.{inside}
use Rattle.certificate.specs.Trial.{graph}
use Rattle.certificate.proofs.groups.Full.pairs_within.Given as goal

abbrev pub invariant-loop-e : goal.invariant-loop-e
invariant-loop-e l = record {
  few : l.found ≤ l.e-index;
  rest : l.found + sum (drop l.e-index l.self.pairs.now) (λ e. bit (inside (graph l.self.trial.now.edges) l.self.trial.now.chains.parents.now l.b e))
      ≡ sum l.self.pairs.now (λ e. bit (inside (graph l.self.trial.now.edges) l.self.trial.now.chains.parents.now l.b e));
}
