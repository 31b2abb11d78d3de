-- The edges that a list of entries stands for, and the two calls on three lists with a count beside them. A count over 2,048 is refused by
-- itself: the lists are not read, since nothing was copied into them. Definitions only.
use Rattle.std.specs.Prelude.{if◌then◌else◌, Bool, List, map, ℕ, ltb, ℤ}
use Rattle.matching.specs.Graph.{Edge, edge}
use Rattle.matching.specs.Certificate.{Certificate}
use Rattle.steps.specs.Refusals.{max_nodes, max_edges, Refusal, NODES, EDGES, Room}
use Rattle.steps.specs.Check.{Judgement, DECLINED}
use Rattle.steps.specs.Plan.{Plan, REFUSED, cleared}
use Rattle.certificate.specs.Lists.{check_lists}
use Rattle.plan.specs.View.{plan_lists}
use Rattle.entries.specs.declared.EdgeEntry.{EdgeEntry}

abbrev pub edge_of : EdgeEntry → Edge
edge_of e = edge e.first e.second e.weight

abbrev pub edges_of : List EdgeEntry → List Edge
edges_of es = map edge_of es

-- NODES comes before EDGES
unfoldable pub overfull : (n : ℕ) → Refusal
overfull n = if ltb max_nodes n then NODES else EDGES

unfoldable pub check_counted : (n count : ℕ) → (first second : List ℕ) → (weight : List ℤ) → (flag : Bool) → Certificate → Judgement
check_counted n count first second weight flag C =
    if ltb max_edges count then DECLINED (overfull n) else check_lists n first second weight flag C

unfoldable pub plan_counted : Room → (n count : ℕ) → (first second : List ℕ) → (weight : List ℤ) → (flag : Bool) → (budget : ℕ) → Plan
plan_counted room n count first second weight flag budget =
    if ltb max_edges count then cleared room (REFUSED (overfull n)) 0 else plan_lists room n first second weight flag budget
