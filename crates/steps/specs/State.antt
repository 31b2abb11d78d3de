-- The state of the search, in four parts: the forest of groups, the labelling of a stage, the pairing, and what the next step is.
-- The comments give the source's name of each list, and how long it is. A missing entry is `missing`. Definitions only.
use Rattle.std.specs.Prelude.{Bool, false, List, [], ◌++◌, ℕ, ◌*◌, ℤ, pos, replicate}
use Rattle.laws.specs.Lists.{range}
use Rattle.matching.specs.Graph.{Graph, edge_count, missing}
use Rattle.steps.specs.Ends.{top_weight}

pub record Forest : Type 0 where
  -- in_blossoms, n: the outermost group
  pub tops : List ℕ
  -- blossom_parents, 2n
  pub parents : List ℕ
  -- blossom_base, 2n: a node is its own, a group not in use has none
  pub bases : List ℕ
  -- blossom_children, 2n: of a group, its base child first, round the ring
  pub children : List (List ℕ)
  -- blossom_endpoints, 2n: of a group, the end at child i of the edge to child i + 1
  pub ring_ends : List (List ℕ)
  -- unused_blossoms: the last is taken first
  pub free : List ℕ

pub record Labelling : Type 0 where
  -- labels, 2n: 0, 1 or 2; missing of a group that was expanded
  pub labels : List ℕ
  -- label_ends, 2n: the end through which the label came, missing at a root
  pub label_ends : List ℕ
  -- best_edge, 2n: the edge of least slack
  pub best : List ℕ
  -- blossom_best_edges, 2n
  pub best_lists : List (List ℕ)
  -- allowed_edge, m
  pub allowed : List Bool
  -- queue: the last is taken first
  pub queue : List ℕ

pub record Pairing : Type 0 where
  -- mate, n: the end at the partner
  pub mates : List ℕ
  -- dual_var, 2n
  pub duals : List ℤ

-- a stage is opened next; a node taken or the duals adjusted; the stage closed; nothing more
pub data Phase : Type 0 where
  opening searching closing ended : Phase

pub record Progress : Type 0 where
  -- how many stages are closed
  pub stage : ℕ
  -- what the next step is
  pub phase : Phase

pub record State : Type 0 where
  pub forest : Forest
  pub labelling : Labelling
  pub pairing : Pairing
  pub progress : Progress

-- ---- the state before the first stage

unfoldable pub start : Graph → State
start G =
    let n = G.nodes in
    record {
      forest = record {
        tops = range 0 n;
        parents = replicate (2 * n) missing;
        bases = range 0 n ++ replicate n missing;
        children = replicate (2 * n) [];
        ring_ends = replicate (2 * n) [];
        free = range n n;
      };
      labelling = record {
        labels = replicate (2 * n) 0;
        label_ends = replicate (2 * n) missing;
        best = replicate (2 * n) missing;
        best_lists = replicate (2 * n) [];
        allowed = replicate (edge_count G) false;
        queue = [];
      };
      pairing = record {
        mates = replicate n missing;
        duals = replicate n (top_weight G.edges) ++ replicate n (pos 0);
      };
      progress = record { stage = 0; phase = opening };
    }
