use Rattle.std.proofs.Common.{◌≡◌, ◌+◌, ◌≤◌, ◌++◌, map, length, take}
use Rattle.matching.specs.Graph.{beside}
use Rattle.grouping.proofs.path.put_beside.Given as goal

abbrev pub invariant-loop-k : goal.invariant-loop-k
invariant-loop-k l = record {
  inside : (l.k ≤ l.k-end) × (l.k-end ≡ length l.ends);
  room : length l.list ≡ length l.fn.list;
  written : take (l.from + l.k) l.list ≡ take l.from l.fn.list ++ map beside (take l.k l.ends);
}
