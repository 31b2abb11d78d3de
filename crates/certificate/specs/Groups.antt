-- FULL as the code reads it: the matched edges are a list, made once. Definitions only.
use Rattle.std.specs.Prelude.{◌≡◌, List, ℕ, ◌≤◌, take}
use Rattle.matching.specs.Graph.{Graph, edge_count}
use Rattle.matching.specs.Certificate.{pairs}

-- the first r of a list are the matched edges
pub record Listed (G : Graph) (mates list : List ℕ) (r : ℕ) : Type 0 where
  pub few : r ≤ edge_count G
  pub entries : take r list ≡ pairs G mates
