-- The graph that a request's edges are, how its run ends, and what is planned of it. Definitions only.
use Rattle.matching.specs.Graph.{Graph}
use Rattle.certificate.specs.Lists.{lent}
use Rattle.steps.specs.Plan.{Ending, run, Plan, plan_end}
use Rattle.steps.specs.Refusals.{Room}
use Rattle.steps.specs.State.{start}
use Rattle.plan.specs.declared.request.Request.{Request}

abbrev pub graph : Request → Graph
graph r = lent r.n r.first.now r.second.now r.weight.now

abbrev pub ran : Request → Ending
ran r = run (graph r) r.flag r.budget 0 (start (graph r))

-- with lent lists of this room, where the run ends so
abbrev pub planned_by : Request → Room → Ending → Plan
planned_by r room e = plan_end (graph r) r.flag room e

abbrev pub planned : Request → Room → Plan
planned r room = planned_by r room (ran r)
