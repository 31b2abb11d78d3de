-- The lists of the search, part by part, and the definition's state that they stand for. Definitions only.
use Rattle.std.specs.Prelude.{Bool, List, ℕ}
use Rattle.laws.specs.Run.{Run, ok, ◌>>=◌}
use Rattle.matching.specs.Graph.{Graph, edge_count}
use Rattle.steps.specs.State.{State, Forest, Labelling, Pairing, Progress}
use Rattle.steps.specs.Leaves.{leaves}

-- a list with room for so many, and the places that its entries are the first of
pub record Stacked : Type 0 where
  pub entries : List ℕ
  pub room : ℕ
  pub places : List ℕ

-- the rows of a pool, the places that they lie in, and how many of its places each row has
pub record Pooled : Type 0 where
  pub rows : List (List ℕ)
  pub places : List ℕ
  pub counts : List ℕ

-- how many nodes and edges the lists are for
pub record Size : Type 0 where
  pub nodes : ℕ
  pub edges : ℕ

abbrev pub size_of : Graph → Size
size_of G = record { nodes = G.nodes; edges = edge_count G }

-- a forest of so many nodes; the places that the children lie in and how many each group has, likewise of the ring ends; and the places of the
-- free numbers
pub record Trees : Type 0 where
  pub lists : Forest
  pub nodes : ℕ
  pub kids : List ℕ
  pub counts : List ℕ
  pub links : List ℕ
  pub link_counts : List ℕ
  pub free_places : List ℕ

-- a labelling, how many nodes and edges it is for, and the places that the candidates lie in
pub record Labels : Type 0 where
  pub lists : Labelling
  pub size : Size
  pub candidates : List ℕ

-- a pairing of so many nodes
pub record Pairs : Type 0 where
  pub lists : Pairing
  pub nodes : ℕ

abbrev pub forest_of : (tops parents bases : List ℕ) → (children ring_ends : List (List ℕ)) → (free : List ℕ) → Forest
forest_of t p b c r f = record { tops = t; parents = p; bases = b; children = c; ring_ends = r; free = f }

abbrev pub labelling_of : (labels label_ends best : List ℕ) → (best_lists : List (List ℕ)) → (allowed : List Bool) → (queue : List ℕ) → Labelling
labelling_of l p e k a q = record { labels = l; label_ends = p; best = e; best_lists = k; allowed = a; queue = q }

-- all lists
pub record Parts : Type 0 where
  pub forest : Trees
  pub labels : Labels
  pub pairing : Pairs

-- the state of these parts
abbrev pub whole : Forest → Labelling → Pairing → Progress → State
whole f l q at = record { forest = f; labelling = l; pairing = q; progress = at }

-- the state of these lists
abbrev pub state_of : Parts → Progress → State
state_of s at = whole s.forest.lists s.labels.lists s.pairing.lists at

-- the lists are for the graph's nodes and edges
abbrev pub sized : Parts → Size
sized s = s.labels.size

-- the nodes of group b go on the end of the queue, which holds at most cap
abbrev pub queued : (n cap : ℕ) → Forest → (b : ℕ) → Labelling → Run Labelling
queued n cap f b s = leaves n cap f.children n b s.queue >>= λ q. ok (record s { queue = q })

-- a labelling with this queue
abbrev pub with_queue_list : List ℕ → Labelling → Labelling
with_queue_list q s = record s { queue = q }
