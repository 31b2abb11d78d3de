-- Matchings by Edmonds' definition (sets of edges with no common node), their weight, and what makes one of them optimal.
-- Definitions only.
use Rattle.std.specs.Prelude.{Bool, ◌≢◌, List, ℕ, ◌<◌, ◌≤◌, T, ℤ, ◌≤ℤ◌, length}
use Rattle.laws.specs.Lists.{Each, EachPair, total}
use Rattle.matching.specs.Graph.{Graph, edge_count, first_of, second_of, weight_of}

-- edges e and f have no common node
pub record Apart (G : Graph) (e f : ℕ) : Type 0 where
  pub first_first : first_of G f ≢ first_of G e
  pub first_second : first_of G f ≢ second_of G e
  pub second_first : second_of G f ≢ first_of G e
  pub second_second : second_of G f ≢ second_of G e

-- A matching is a list of edge numbers, of which no two have a common node. So no edge is there twice.
pub record Matching (G : Graph) (M : List ℕ) : Type 0 where
  pub known : Each (λ e. e < edge_count G) M
  pub apart : EachPair (Apart G) M

unfoldable pub weight : Graph → List ℕ → ℤ
weight G M = total M (weight_of G)

-- M is a matching, and no matching weighs more. Under the flag only matchings with at least as many edges are compared.
-- `steps` proves that a plan that answers DONE is optimal in this sense (`done_optimal`).
pub record Optimal (G : Graph) (flag : Bool) (M : List ℕ) : Type 0 where
  pub is_matching : Matching G M
  pub is_best : (L : List ℕ) → Matching G L → (T flag → length M ≤ length L) → weight G L ≤ℤ weight G M
