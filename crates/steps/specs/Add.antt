-- `add_blossom`: a new group of the two paths from an edge's ends back to their meeting point.
-- Definitions only.
use Rattle.std.specs.Prelude.{if◌then◌else◌, Bool, true, false, not, ◌&&◌, List, [], ◌∷◌, ◌++◌, reverse, map, ℕ, ◌*◌, ◌/◌, ℤ, pos, eqb, leb, length}
use Rattle.laws.specs.Lists.{repeats}
use Rattle.laws.specs.Run.{Run, ok, ◌>>=◌, must, only_if, for_each, while, at, pop}
use Rattle.matching.specs.Graph.{Graph, missing, is_missing, is_odd, beside}
use Rattle.steps.specs.Ends.{present, endpoint, tighter, far_ends}
use Rattle.steps.specs.State.{State}
use Rattle.steps.specs.Stores.{with_free, put_label, put_label_end, put_top, put_parent, put_base, put_best, put_dual, put_children, put_ring_ends, put_best_list}
use Rattle.steps.specs.Leaves.{leaves_of}
use Rattle.steps.specs.Label.{enqueue, base_mate}

-- ---- the two paths

pub record Trace : Type 0 where
  -- the group that the walk stands at
  pub here : ℕ
  -- the groups passed, and the end through which each got its label
  pub kids : List ℕ
  pub ends : List ℕ

unfoldable pub trace_goes : (stop : ℕ) → Trace → Run Bool
trace_goes stop k = ok (not (eqb k.here stop))

-- labels[b] == 2, or labels[b] == 1 and b was reached through its base's mate
unfoldable pub traceable : State → (b e : ℕ) → Run Bool
traceable s b e = do
  l ← at s.labelling.labels b
  if eqb l 2 then ok true else if eqb l 1 then (base_mate s b >>= λ m. ok (eqb e m)) else ok false

unfoldable pub trace_move : Graph → State → Trace → Run Trace
trace_move G s k = do
  e ← at s.labelling.label_ends k.here
  e ← present e
  fine ← traceable s k.here e
  _ ← must fine
  v ← endpoint G e
  t ← at s.forest.tops v
  ok (record { here = t; kids = k.kids ++ (k.here ∷ []); ends = k.ends ++ (e ∷ []) })

-- from group b back to the group `stop`
unfoldable pub trace : Graph → State → (stop b : ℕ) → Run Trace
trace G s stop b = while (trace_goes stop) (trace_move G s) (2 * G.nodes) (record { here = b; kids = []; ends = [] })

-- ---- the ring

-- an odd number of children, three or more, none twice: so no more than there are nodes
unfoldable pub fit_children : (n : ℕ) → List ℕ → Bool
fit_children n kids = is_odd (length kids) && leb 3 (length kids) && leb (length kids) n && not (repeats kids)

-- the children have the new group as parent
unfoldable pub adopt : (new : ℕ) → ℕ → State → Run State
adopt new c s = put_parent c new s

-- the new group's ring of children and their ends, its parent and its base; only a group has a ring
unfoldable pub ring_up : Graph → (new base : ℕ) → (kids ends : List ℕ) → State → Run State
ring_up G new base kids ends s = do
  _ ← must (fit_children G.nodes kids && leb G.nodes new)
  s ← put_base new base s
  s ← put_parent new missing s
  s ← for_each (adopt new) kids s
  s ← put_children new kids s
  put_ring_ends new ends s

-- the new group has label 1, through the end that gave it to the group `first`, and dual 0
unfoldable pub settle : (new first : ℕ) → State → Run State
settle new first s = do
  l ← at s.labelling.labels first
  _ ← must (eqb l 1)
  s ← put_label new 1 s
  e ← at s.labelling.label_ends first
  s ← put_label_end new e s
  put_dual new (pos 0) s

-- a node that had label 2 is queued; the node's outermost group is the new one
unfoldable pub take_in : Graph → (new v : ℕ) → State → Run State
take_in G new v s = do
  t ← at s.forest.tops v
  l ← at s.labelling.labels t
  s ← only_if (eqb l 2) (enqueue G v) s
  put_top v new s

-- ---- the best edges of the new group

-- the least-slack edge found so far to a label-1 group
pub record Link : Type 0 where
  pub toward : ℕ
  pub edge : ℕ

-- best_edge_to: a new group goes on the end; a tighter edge replaces one in its place
unfoldable pub insert_link : Graph → List ℤ → (j e : ℕ) → List Link → Run (List Link)
insert_link G duals j e [] = ok (record { toward = j; edge = e } ∷ [])
insert_link G duals j e (x ∷ xs) =
    let here = tighter G duals e x.edge >>= λ less. ok (if less then record { toward = j; edge = e } ∷ xs else x ∷ xs) in
    let later = insert_link G duals j e xs >>= λ ys. ok (x ∷ ys) in
    if eqb x.toward j then here else later

-- each link leads to another outermost group, so there are no more than nodes
unfoldable pub consider_to : Graph → State → (j e : ℕ) → List Link → Run (List Link)
consider_to G s j e links = do
  l ← at s.labelling.labels j
  links ← only_if (eqb l 1) (insert_link G s.pairing.duals j e) links
  _ ← must (leb (length links) G.nodes)
  ok links

-- an edge of a child, taken so that it leaves the new group, if it does
unfoldable pub consider : Graph → State → (new : ℕ) → ℕ → List Link → Run (List Link)
consider G s new e links = do
  x ← at G.edges e
  t ← at s.forest.tops x.second
  j ← at s.forest.tops (if eqb t new then x.first else x.second)
  only_if (not (eqb j new)) (consider_to G s j e) links

-- all edges at a node, in order
unfoldable pub consider_at : Graph → State → (new : ℕ) → ℕ → List Link → Run (List Link)
consider_at G s new v links = for_each (λ p links. consider G s new (p / 2) links) (far_ends G v) links

-- a child's own list, or all edges of its nodes where it has none
unfoldable pub consider_child : Graph → State → (new c : ℕ) → (own : List ℕ) → List Link → Run (List Link)
consider_child G s new c [] links = do
  vs ← leaves_of G s c
  for_each (consider_at G s new) vs links
consider_child G s new c (e ∷ es) links = for_each (consider G s new) (e ∷ es) links

pub record Gathered : Type 0 where
  pub links : List Link
  pub state : State

-- a child's edges are considered, and its own list and best edge forgotten
unfoldable pub gather : Graph → (new : ℕ) → ℕ → Gathered → Run Gathered
gather G new c k = do
  own ← at k.state.labelling.best_lists c
  links ← consider_child G k.state new c own k.links
  s ← put_best_list c [] k.state
  s ← put_best c missing s
  ok (record { links = links; state = s })

-- the first of the tightest, or missing
unfoldable pub tightest : Graph → List ℤ → (e best : ℕ) → Run ℕ
tightest G duals e best =
    if is_missing best then ok e else (tighter G duals e best >>= λ less. ok (if less then e else best))

unfoldable pub best_edges : Graph → (new : ℕ) → List ℕ → State → Run State
best_edges G new kids s = do
  k ← for_each (gather G new) kids (record { links = []; state = s })
  let es = map (λ (x : Link). x.edge) k.links
  s ← put_best_list new es k.state
  best ← for_each (tightest G s.pairing.duals) es missing
  put_best new best s

-- ---- the whole

unfoldable pub add_group : Graph → (base e : ℕ) → State → Run State
add_group G base e s = do
  x ← at G.edges e
  first ← at s.forest.tops base
  bv ← at s.forest.tops x.first
  bw ← at s.forest.tops x.second
  a ← trace G s first bv
  b ← trace G s first bw
  let kids = reverse (a.kids ++ (first ∷ [])) ++ b.kids
  let ends = reverse a.ends ++ (2 * e ∷ []) ++ map beside b.ends
  f ← pop s.forest.free
  let new = f.last
  s ← ring_up G new base kids ends (with_free f.rest s)
  s ← settle new first s
  vs ← leaves_of G s new
  s ← for_each (take_in G new) vs s
  best_edges G new kids s
