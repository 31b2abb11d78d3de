-- The facts of `Standing` speak of something: the run of P7, the triangle, passes after its eighth step through a state with a group in use,
-- in which every node lies (`group_seen`). And a state with a child that is free is refused, by its ring and by its free number
-- (`crooked_refused`).
use mathlib.Core.Path.{◌≡◌, refl}
use mathlib.Core.Bool.{false}
use mathlib.Core.Logic.{⊎_elim}
use mathlib.Core.List.{List, [], ◌∷◌}
use Prim.Native.Nat.{◌<◌}
use native.Mathlib.Omega.{arith}
use Rattle.laws.specs.Times.{times}
use Rattle.matching.specs.Graph.{Edge, Graph, graph_of, missing, is_group}
use Rattle.matching.specs.Certificate.{parent_of}
use Rattle.steps.specs.State.{Forest, State, start}
use Rattle.steps.specs.Plan.{Ending, finished, spent, broken, run, run_by}
use Rattle.steps.specs.Standing.{top_of, InUse, Ring, Free, InUseOrFree, Standing, After}
use Rattle.steps.specs.Table.{triangle}
use Rattle.steps.proofs.Computed.{computed}
use Rattle.steps.proofs.Steady.{end_passed}

abbrev G : Graph
G = graph_of 3 triangle

-- the state that a run ends in
abbrev last : Ending → State
last (finished j t) = t
last (spent j) = start G
last (broken j) = start G

abbrev end : State
end = last (run G false 96 0 (start G))

ends : run_by is_group G false 96 0 (start G) ≡ finished 8 end
unfolding computed
ends = refl

top_is : (top_of end.forest 0 ≡ 5) × (top_of end.forest 1 ≡ 5) × (top_of end.forest 2 ≡ 5)
unfolding computed
top_is = (refl, refl, refl)

in_use : InUse end.forest 5
unfolding computed
in_use e = let no_way : ⊥ = omega (arith, e) in no_way

pub group_seen : After is_group G false 8 end × InUse end.forest 5 × (top_of end.forest 0 ≡ 5) × (top_of end.forest 1 ≡ 5) × (top_of end.forest 2 ≡ 5)
group_seen = (end_passed G (omega arith) (omega arith) is_group false 96 8 end ends, in_use, top_is.0, top_is.1, top_is.2)

-- ---- and they refuse what they should

-- two nodes in group 2, and a third child, number 3, which is a group's but is free: it has a parent, and no base and no children
abbrev crooked_forest : Forest
crooked_forest = record {
  tops = 2 ∷ 2 ∷ [];
  parents = 2 ∷ 2 ∷ missing ∷ 2 ∷ [];
  bases = 0 ∷ 1 ∷ 0 ∷ missing ∷ [];
  children = [] ∷ [] ∷ (0 ∷ 1 ∷ 3 ∷ []) ∷ [] ∷ [];
  ring_ends = [] ∷ [] ∷ [] ∷ [] ∷ [];
  free = 3 ∷ [];
}

-- no node has a mate
abbrev crooked : State
crooked = let s = start (graph_of 2 []) in
    record { forest = crooked_forest; labelling = s.labelling; pairing = s.pairing; progress = s.progress }

-- the third child is no node and not in use
ring_refused : ¬ (Ring 2 crooked_forest 2)
unfolding times
ring_refused r = ⊎_elim
    (λ (l : 3 < 2). let no_way : ⊥ = omega arith in no_way)
    (λ u. u.1 refl)
    (r.each_in_use 3 (omega arith))

-- and a number that is free has no parent
number_refused : ¬ (InUseOrFree crooked_forest 3)
unfolding parent_of
number_refused h = ⊎_elim
    (λ u. u.0 refl)
    (λ (f : Free crooked_forest 3). let no_way : ⊥ = omega (arith, f.no_parent) in no_way)
    h

pub crooked_refused : (edges : List Edge) → ¬ (Standing (graph_of 2 edges) crooked) × ¬ (Ring 2 crooked_forest 2) × ¬ (InUseOrFree crooked_forest 3)
crooked_refused edges = (λ h. number_refused (h.numbers 3 (omega arith, omega arith)), ring_refused, number_refused)
