use Rattle.std.proofs.Common.{◌≡◌, ◌≤◌, drop, nat_abs, get_or, pos}
use Rattle.laws.specs.Integers.{least_from}
use Rattle.certificate.proofs.nodes.least.Given as goal

abbrev pub invariant-loop-d : goal.invariant-loop-d
invariant-loop-d l = record {
  rest : least_from l.low (drop l.d-index l.duals) ≡ least_from (get_or l.duals 0 (pos 0)) l.duals;
  near : nat_abs l.low ≤ 4503599627370496;
}
