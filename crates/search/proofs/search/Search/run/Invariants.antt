use Rattle.std.proofs.Common.{◌≡◌, ◌-◌, ◌≤◌}
use Rattle.matching.specs.Graph.{is_group}
use Rattle.steps.specs.Plan.{run_by}
use Rattle.search.specs.Searched.{searched, Ready}
use Rattle.search.proofs.search.Search.run.Given as goal

abbrev pub decreases-loop-s : goal.decreases-loop-s
decreases-loop-s l = l.budget - l.count

abbrev pub invariant-loop-s : goal.invariant-loop-s
invariant-loop-s l = record {
  within : l.count ≤ l.budget;
  ready : Ready l.g l.s;
  rest : run_by is_group l.g l.flag (l.budget - l.count) l.count (searched l.s) ≡ run_by is_group l.g l.flag l.budget 0 (searched l.fn.self);
}
