-- The edges of a graph as the code holds them: `ends`, for each edge its first node and then its second, and `weights`. Definitions only.
use Rattle.std.specs.Prelude.{List, [], ◌∷◌, ℕ, ℤ}
use Rattle.matching.specs.Graph.{Edge}

unfoldable pub ends_of : List Edge → List ℕ
ends_of [] = []
ends_of (x ∷ xs) = x.first ∷ x.second ∷ ends_of xs

unfoldable pub weights_of : List Edge → List ℤ
weights_of [] = []
weights_of (x ∷ xs) = x.weight ∷ weights_of xs
