use Rattle.std.proofs.Common.{◌≡◌, ◌++◌, length, take, drop}
use Rattle.laws.specs.Lists.{range}
use Rattle.state.proofs.fresh.count_up.Given as goal

abbrev pub invariant-loop-i : goal.invariant-loop-i
invariant-loop-i l = record {
  size : length l.list ≡ length l.fn.list;
  rest : l.list ≡ take l.i (range l.from (length l.fn.list)) ++ drop l.i l.fn.list;
}
