-- What the search reads of the graph: the node at an end, an edge's slack, the ends across from a node, the largest weight.
-- A fault where the source would index outside a list or unwrap something missing. Definitions only.
use Rattle.std.specs.Prelude.{if◌then◌else◌, Bool, true, false, ◌&&◌, List, [], ◌∷◌, ℕ, suc, ◌+◌, ◌*◌, ℤ, pos, eqb, ltb, length}
use Rattle.std.specs.Int.Signed.{lt_z}
use Rattle.laws.specs.Integers.{greater}
use Rattle.laws.specs.Run.{Run, ok, fault, ◌>>=◌, must, at}
use Rattle.matching.specs.Graph.{Edge, Graph, edge_count, is_missing, node_at}
use Rattle.matching.specs.Certificate.{slack}

-- x.unwrap()
abbrev pub present : ℕ → Run ℕ
present x = if is_missing x then fault else ok x

-- endpoints[p]
unfoldable pub endpoint : Graph → ℕ → Run ℕ
endpoint G p = do
  _ ← must (ltb p (2 * edge_count G))
  ok (node_at G p)

-- `slack`: the two duals less twice the weight
unfoldable pub slack_of : Graph → List ℤ → ℕ → Run ℤ
slack_of G duals e = do
  x ← at G.edges e
  _ ← must (ltb x.first (length duals) && ltb x.second (length duals))
  ok (slack G duals e)

-- slack of edge d below slack of edge e
unfoldable pub tighter : Graph → List ℤ → (d e : ℕ) → Run Bool
tighter G duals d e = do
  x ← slack_of G duals d
  y ← slack_of G duals e
  ok (lt_z x y)

abbrev cons_if : Bool → ℕ → List ℕ → List ℕ
cons_if true p ps = p ∷ ps
cons_if false p ps = ps

-- neighbor_endpoints[v]: the far end of each edge at v, in edge order; e is the number of the list's first edge
unfoldable pub far_ends_from : (v e : ℕ) → List Edge → List ℕ
far_ends_from v e [] = []
far_ends_from v e (x ∷ xs) =
    cons_if (eqb x.first v) (2 * e + 1) (cons_if (eqb x.second v) (2 * e) (far_ends_from v (suc e) xs))

unfoldable pub far_ends : Graph → ℕ → List ℕ
far_ends G v = far_ends_from v 0 G.edges

-- the largest weight, or 0 where none is above it
unfoldable pub top_weight : List Edge → ℤ
top_weight [] = pos 0
top_weight (x ∷ xs) = greater (top_weight xs) x.weight
