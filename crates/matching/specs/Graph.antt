-- A graph with weighted edges. Node, edge, end and group numbers are counted apart: nodes are 0 to n - 1, edges go in list order,
-- edge e has the end 2e at its first node and the end 2e + 1 at its second, groups are n to 2n - 1. Definitions only.
use Rattle.std.specs.Prelude.{if◌then◌else◌, Bool, ◌≢◌, List, [], ◌∷◌, ℕ, ◌+◌, ◌*◌, ◌-◌, ◌/◌, ◌%◌, ◌<◌, eqb, leb, ℤ, pos, length, get_or}
use Rattle.laws.specs.Lists.{range}

-- an edge: its two nodes and its weight
pub record Edge : Type 0 where
  pub first : ℕ
  pub second : ℕ
  pub weight : ℤ

abbrev pub edge : ℕ → ℕ → ℤ → Edge
edge a b w = record { first = a; second = b; weight = w }

-- so many nodes, and the edges in list order; parallel edges are allowed
pub record Graph : Type 0 where
  pub nodes : ℕ
  pub edges : List Edge

abbrev pub graph_of : ℕ → List Edge → Graph
graph_of n edges = record { nodes = n; edges = edges }

abbrev pub edge_count : Graph → ℕ
edge_count G = length G.edges

abbrev pub edge_at : Graph → ℕ → Edge
edge_at G e = get_or G.edges e (edge 0 0 (pos 0))

-- edge e's first node, its second node and its weight
unfoldable pub first_of : Graph → ℕ → ℕ
first_of G e = (edge_at G e).first

unfoldable pub second_of : Graph → ℕ → ℕ
second_of G e = (edge_at G e).second

unfoldable pub weight_of : Graph → ℕ → ℤ
weight_of G e = (edge_at G e).weight

abbrev pub nodes_of : Graph → List ℕ
nodes_of G = range 0 G.nodes

abbrev pub edges_of : Graph → List ℕ
edges_of G = range 0 (edge_count G)

abbrev pub groups_of : Graph → List ℕ
groups_of G = range G.nodes G.nodes

-- ---- ends

-- missing, in mates and parents and wherever a number may be missing
abbrev pub missing : ℕ
missing = 65535

abbrev pub is_missing : ℕ → Bool
is_missing x = eqb x missing

-- number x is a group's, where there are n nodes
abbrev pub is_group : (n x : ℕ) → Bool
is_group n x = leb n x

abbrev pub is_odd : ℕ → Bool
is_odd x = eqb (x % 2) 1

-- the end beside p: the last bit turned
abbrev pub beside : ℕ → ℕ
beside p = p + 1 - 2 * (p % 2)

-- the node that end p is at
unfoldable pub node_at : Graph → ℕ → ℕ
node_at G p = if is_odd p then second_of G (p / 2) else first_of G (p / 2)

-- ---- graphs that may be planned

-- both nodes of the edge are there, and it is no loop
pub record Proper (G : Graph) (e : ℕ) : Type 0 where
  pub first_node : first_of G e < G.nodes
  pub second_node : second_of G e < G.nodes
  pub no_loop : first_of G e ≢ second_of G e

abbrev pub WellFormed : Graph → Type 0
WellFormed G = (e : ℕ) → e < edge_count G → Proper G e

-- ---- the edges lent as three lists of one length: first nodes, second nodes, weights

abbrev pub edges_from : List ℕ → List ℕ → List ℤ → List Edge
edges_from (x ∷ xs) (y ∷ ys) (z ∷ zs) = edge x y z ∷ edges_from xs ys zs
edges_from (x ∷ xs) (y ∷ ys) [] = []
edges_from (x ∷ xs) [] zs = []
edges_from [] ys zs = []
