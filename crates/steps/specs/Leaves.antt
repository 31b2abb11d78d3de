-- `blossom_leaves`: the nodes of a group, child after child, each child's nodes in turn. They go on the end of the list `out`.
-- A fault where groups nest deeper than `depth`, or where the list would pass `cap` entries. Definitions only.
use Rattle.std.specs.Prelude.{if◌then◌else◌, List, [], ℕ, zero, suc, ◌*◌, ltb}
use Rattle.laws.specs.Run.{Run, fault, ◌>>=◌, for_each, at, push}
use Rattle.matching.specs.Graph.{Graph}
use Rattle.steps.specs.State.{State}

unfoldable pub leaves : (n cap : ℕ) → (children : List (List ℕ)) → (depth b : ℕ) → (out : List ℕ) → Run (List ℕ)
leaves n cap children zero b out = if ltb b n then push cap b out else fault
leaves n cap children (suc depth) b out =
    if ltb b n then push cap b out
    else (at children b >>= λ kids. for_each (λ c out. leaves n cap children depth c out) kids out)

-- after the nodes of `out`, those of b: no more than 2n in all
unfoldable pub leaves_after : Graph → State → (b : ℕ) → (out : List ℕ) → Run (List ℕ)
leaves_after G s b out = leaves G.nodes (2 * G.nodes) s.forest.children G.nodes b out

unfoldable pub leaves_of : Graph → State → ℕ → Run (List ℕ)
leaves_of G s b = leaves_after G s b []
