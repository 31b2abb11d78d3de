-- The limits, and what both calls refuse before anything is read of the search or the certificate: answers 1 to 6 with their places.
-- The only place where the limits stand. Definitions only.
use Rattle.std.specs.Prelude.{if◌then◌else◌, Bool, ◌||◌, List, [], ◌∷◌, ℕ, suc, ◌*◌, nat_abs, eqb, ltb, leb, length}
use Rattle.matching.specs.Graph.{Edge}

abbrev pub max_nodes : ℕ
max_nodes = 64

abbrev pub max_edges : ℕ
max_edges = 2048

abbrev pub max_weight : ℕ
max_weight = 1_000_000_000

-- END, LOOP and WEIGHT carry the edge
pub data Refusal : Type 0 where
  NODES EDGES BUFFER : Refusal
  END LOOP WEIGHT : ℕ → Refusal

abbrev pub refusal_number : Refusal → ℕ
refusal_number NODES = 1
refusal_number EDGES = 2
refusal_number (END e) = 3
refusal_number (LOOP e) = 4
refusal_number (WEIGHT e) = 5
refusal_number BUFFER = 6

abbrev pub refusal_place : Refusal → ℕ
refusal_place NODES = 0
refusal_place EDGES = 0
refusal_place (END e) = e
refusal_place (LOOP e) = e
refusal_place (WEIGHT e) = e
refusal_place BUFFER = 0

pub data Intake : Type 0 where
  fine : Intake
  refused : Refusal → Intake

-- the lengths of the three lent lists
pub record Room : Type 0 where
  pub mates : ℕ
  pub duals : ℕ
  pub parents : ℕ

-- at one edge: END, LOOP, WEIGHT
unfoldable pub edge_intake : (n e : ℕ) → Edge → Intake
edge_intake n e x =
    if leb n x.first || leb n x.second then refused (END e)
    else if eqb x.first x.second then refused (LOOP e)
    else if ltb max_weight (nat_abs x.weight) then refused (WEIGHT e)
    else fine

-- a refusal, or else what comes after it
abbrev pub or_else : Intake → Intake → Intake
or_else fine r = r
or_else (refused a) r = refused a

-- the first bad edge of a list whose first edge is number e
unfoldable pub edges_intake : (n e : ℕ) → List Edge → Intake
edges_intake n e [] = fine
edges_intake n e (x ∷ xs) = let later = edges_intake n (suc e) xs in or_else (edge_intake n e x) later

unfoldable pub too_short : (n : ℕ) → Room → Bool
too_short n room = ltb room.mates n || ltb room.duals (2 * n) || ltb room.parents (2 * n)

-- NODES, EDGES, BUFFER, then the edges
unfoldable pub intake : (n : ℕ) → List Edge → Room → Intake
intake n edges room =
    if ltb max_nodes n then refused NODES
    else if ltb max_edges (length edges) then refused EDGES
    else if too_short n room then refused BUFFER
    else edges_intake n 0 edges
