-- The check call on three parallel lists of edges: first nodes, second nodes, weights. Lists of one length are the edge list whose entry e
-- is made of the three entries e, and then all is as in `steps`. Lists of unequal length are no edge list: BUFFER, at its place in the
-- order, after NODES and EDGES, where the first nodes are counted. The plan call refuses by the same `intake_lists`. Definitions only.
use Rattle.std.specs.Prelude.{if◌then◌else◌, ◌≡◌, Bool, not, ◌&&◌, ◌||◌, List, [], ℕ, ◌*◌, ◌/◌, ◌<◌, ◌≤◌, eqb, leb, ltb, ℤ, pos, nat_abs, length, get_or}
use Rattle.std.specs.Int.Signed.{le_z}
use Rattle.matching.specs.Graph.{Graph, graph_of, edges_from, is_missing, is_odd}
use Rattle.matching.specs.Certificate.{Certificate, max_dual}
use Rattle.steps.specs.Refusals.{max_nodes, max_edges, Refusal, NODES, EDGES, BUFFER, Intake, refused, Room, intake}
use Rattle.steps.specs.Check.{Judgement, DECLINED, check}

-- the graph that three lists describe
abbrev pub lent : (n : ℕ) → (first second : List ℕ) → (weight : List ℤ) → Graph
lent n first second weight = graph_of n (edges_from first second weight)

abbrev pub room : (mates duals parents : ℕ) → Room
room mates duals parents = record { mates = mates; duals = duals; parents = parents }

abbrev pub certificate_of : List ℕ → List ℤ → List ℕ → Certificate
certificate_of mates duals parents = record { mates = mates; duals = duals; parents = parents }

unfoldable pub same_length : (first second : List ℕ) → (weight : List ℤ) → Bool
same_length first second weight = eqb (length second) (length first) && eqb (length weight) (length first)

-- what lists of unequal length are refused with
unfoldable pub unequal : (n m : ℕ) → Refusal
unequal n m = if ltb max_nodes n then NODES else if ltb max_edges m then EDGES else BUFFER

unfoldable pub intake_lists : (n : ℕ) → (first second : List ℕ) → (weight : List ℤ) → Room → Intake
intake_lists n first second weight r =
    if same_length first second weight then intake n (edges_from first second weight) r else refused (unequal n (length first))

unfoldable pub check_lists : (n : ℕ) → (first second : List ℕ) → (weight : List ℤ) → (flag : Bool) → Certificate → Judgement
check_lists n first second weight flag C =
    if same_length first second weight then check n (edges_from first second weight) flag C else DECLINED (unequal n (length first))

-- ---- the tests as the code reads them: numbers that are in range, in the lists themselves

-- a graph's nodes are all that PARENT, DUAL and FREE read of it
abbrev pub bare : ℕ → Graph
bare n = graph_of n []

unfoldable pub end_node : (first second : List ℕ) → ℕ → ℕ
end_node first second p = if is_odd p then get_or second (p / 2) 0 else get_or first (p / 2) 0

unfoldable pub parent_named : (n p : ℕ) → Bool
parent_named n p = is_missing p || (leb n p && ltb p (2 * n))

unfoldable pub named_at : (n : ℕ) → (parents : List ℕ) → ℕ → Bool
named_at n parents i = parent_named n (get_or parents i 0)

unfoldable pub dual_fits : (n : ℕ) → (flag : Bool) → (i : ℕ) → ℤ → Bool
dual_fits n flag i d =
    leb (nat_abs d) max_dual && ((not (leb n i) || le_z (pos 0) d) && (not (not flag) || le_z (pos 0) d))

-- ---- what the functions below the call may ask for, since the refusals or the conditions before have shown it

-- edges that are not refused: their nodes
pub record Known (n : ℕ) (first second : List ℕ) : Type 0 where
  pub few_nodes : n ≤ 64
  pub few_edges : length first ≤ 2048
  pub seconds : length second ≡ length first
  pub first_node : (e : ℕ) → e < length first → get_or first e 0 < n
  pub second_node : (e : ℕ) → e < length first → get_or second e 0 < n

-- and their weights
pub record Weighed (first : List ℕ) (weight : List ℤ) : Type 0 where
  pub weights : length weight ≡ length first
  pub near_zero : (e : ℕ) → e < length first → nat_abs (get_or weight e (pos 0)) ≤ 1_000_000_000

-- 2n duals within 2^52 of zero
pub record Near (n : ℕ) (duals : List ℤ) : Type 0 where
  pub as_many : length duals ≡ 2 * n
  pub is_small : (i : ℕ) → i < 2 * n → nat_abs (get_or duals i (pos 0)) ≤ 4503599627370496
