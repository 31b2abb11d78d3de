use Rattle.std.proofs.Common.{◌≡◌, ◌+◌, ◌-◌, ◌≤◌}
use Rattle.laws.specs.Lists.{bit, range, sum}
use Rattle.matching.specs.Certificate.{meets}
use Rattle.certificate.proofs.chains.Chains.size_of.Given as goal

abbrev pub invariant-loop-v : goal.invariant-loop-v
invariant-loop-v l = record {
  few : l.size ≤ l.v;
  rest : l.size + sum (range l.v (l.self.nodes - l.v)) (λ u. bit (meets l.self.parents.now l.self.nodes u l.b))
      ≡ sum (range 0 l.self.nodes) (λ u. bit (meets l.self.parents.now l.self.nodes u l.b));
}
