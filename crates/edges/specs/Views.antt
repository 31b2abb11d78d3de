-- The graph that the lent lists stand for, and what is answered of an edge. Definitions only.
use Rattle.std.specs.Prelude.{◌≡◌, List, [], ◌∷◌, ℕ, ℤ, ◌+◌, ◌*◌, ◌≤◌, ◌<◌, length, Result, Ok, Err}
use Rattle.laws.specs.Run.{Run, ok, fault}
use Rattle.matching.specs.Graph.{Edge, edge}
use Rattle.numbers.specs.Near.{Near}
use Rattle.numbers.specs.declared.faults.Fault.{Fault}
use Rattle.edges.specs.Neighbours.{Neighbours}
use Rattle.edges.specs.declared.graph.EdgeAt.{EdgeAt}

-- the edges whose ends and weights are these
unfoldable pub edges_over : (ends : List ℕ) → (weights : List ℤ) → List Edge
edges_over (x ∷ y ∷ ends) (w ∷ ws) = edge x y w ∷ edges_over ends ws
edges_over (x ∷ y ∷ ends) [] = []
edges_over (x ∷ []) ws = []
edges_over [] ws = []

-- the lists are as long as they say, and short enough for numbers of 16 bits; weights are within 10^9 of zero; far has the ends
-- across from each node
pub record GraphFits (n : ℕ) (ends : List ℕ) (weights : List ℤ) (offsets far : List ℕ) : Type 0 where
  pub nodes : n ≤ 512
  pub pairs : length ends ≡ 2 * length weights
  pub few : length weights ≤ 32767
  pub near : Near 1000000000 weights
  pub starts : length offsets ≡ n + 1
  pub table : length far ≤ 65535
  pub neighbours : Neighbours n ends offsets far

-- the run x answers an edge
abbrev pub AnswersEdgeAt : Run Edge → Result EdgeAt Fault → Type 0
AnswersEdgeAt x (Ok k) = x ≡ ok (edge k.first k.second k.weight)
AnswersEdgeAt x (Err e) = x ≡ fault

-- there is such an edge, so its number is below a limit
abbrev pub Within : (e limit : ℕ) → Result EdgeAt Fault → Type 0
Within e limit (Ok k) = e < limit
Within e limit (Err f) = Unit {0}
