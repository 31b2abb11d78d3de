-- What the code finds of one pair, as the definition's pairs.
use Rattle.std.specs.Prelude.{Option, Some, None, List, [], ◌∷◌, ℤ}
use Rattle.laws.specs.Lists.{total}
use Rattle.matching.specs.Graph.{Graph}
use Rattle.certificate.specs.Lists.{lent}
use Rattle.printed.specs.Answer as answer
use Rattle.printed.specs.declared.pair.Pair.{Pair}
use Rattle.printed.specs.declared.pair.Plan.{Plan}

abbrev pub pair_view : Pair → answer.Pair
pair_view x = record { lower = x.lower; higher = x.higher; weight = x.weight }

-- one pair or none
abbrev pub pair_in : Option Pair → List answer.Pair
pair_in (Some x) = pair_view x ∷ []
pair_in None = []

abbrev pub graph_in : Plan → Graph
graph_in p = lent p.n p.first.now p.second.now p.weight.now

-- the pairs of a plan
abbrev pub pairs_in : Plan → List answer.Pair
pairs_in p = answer.pairs_of (graph_in p) p.mates.now

abbrev pub weights_total : List answer.Pair → ℤ
weights_total ps = total ps (λ x. x.weight)
