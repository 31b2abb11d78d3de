use Rattle.std.proofs.Common.{◌≡◌, ◌≤◌, length, take}
use Rattle.laws.specs.Lists.{keep, range}
use Rattle.matching.specs.Certificate.{matched}
use Rattle.certificate.specs.Trial.{graph}
use Rattle.certificate.proofs.groups.list_pairs.Given as goal

abbrev pub invariant-loop-e : goal.invariant-loop-e
invariant-loop-e l = record {
  few : l.k ≤ l.e;
  room : length l.list ≡ length l.initial.list;
  entries : take l.k l.list ≡ keep (matched (graph l.edges) l.mates) (range 0 l.e);
}
