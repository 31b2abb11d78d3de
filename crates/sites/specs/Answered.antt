-- What a site file is answered with: its refusal, or its plan, printed; and whether that is a finished plan. Definitions only.
use Rattle.std.specs.Prelude.{Bool, true, false, List, ℕ, ◌*◌}
use Rattle.matching.specs.Graph.{graph_of}
use Rattle.steps.specs.Refusals.{max_edges}
use Rattle.steps.specs.Plan.{Answer, DONE, STEPS, FAULT, REFUSED, Plan, plan}
use Rattle.certificate.specs.Lists.{room}
use Rattle.records.specs.Site.{Site, Outcome, read, refused, read_site}
use Rattle.printed.specs.Answer.{printed, printed_complaint}

-- the plan of a site, in lists of just the length that it needs
unfoldable pub plan_of_site : Site → Plan
plan_of_site s = plan (room s.nodes (2 * s.nodes) (2 * s.nodes)) s.nodes s.edges s.flag s.budget

unfoldable pub answered_as : Outcome → List ℕ
answered_as (read s) = printed (graph_of s.nodes s.edges) (plan_of_site s)
answered_as (refused c place) = printed_complaint c place

-- the printed bytes of a file's bytes
abbrev pub answered : (file : List ℕ) → List ℕ
answered file = answered_as (read_site max_edges file)

abbrev pub is_done : Answer → Bool
is_done DONE = true
is_done STEPS = false
is_done FAULT = false
is_done (REFUSED r) = false

unfoldable pub done_as : Outcome → Bool
done_as (read s) = is_done (plan_of_site s).answer
done_as (refused c place) = false

-- whether a file's plan is done
abbrev pub done : (file : List ℕ) → Bool
done file = done_as (read_site max_edges file)
