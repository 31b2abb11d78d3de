-- `augment_blossom` and `augment_matching`: matched and unmatched edges change places along a path.
-- Definitions only.
use Rattle.std.specs.Prelude.{if◌then◌else◌, Bool, true, false, not, List, ℕ, zero, suc, ◌+◌, ◌*◌, eqb, length}
use Rattle.laws.specs.Run.{Run, ok, fault, ◌>>=◌, must, only_if, while, at, position}
use Rattle.matching.specs.Graph.{Graph, is_missing, is_group, is_odd, beside}
use Rattle.matching.specs.Tests.{mates_pass}
use Rattle.steps.specs.Ends.{present, endpoint}
use Rattle.steps.specs.State.{State}
use Rattle.steps.specs.Stores.{put_mate, put_children, put_ring_ends, put_base}
use Rattle.steps.specs.Label.{base_mate}
use Rattle.steps.specs.Ring.{around, link_end, rotate}

-- ---- `augment_blossom`

-- from node v up to the child of group b that holds it, by the parents
unfoldable pub climb_goes : (parents : List ℕ) → (b t : ℕ) → Run Bool
climb_goes parents b t = do
  p ← at parents t
  ok (not (eqb p b))

unfoldable pub climb_move : (parents : List ℕ) → ℕ → Run ℕ
climb_move parents t = do
  p ← at parents t
  present p

unfoldable pub child_holding : (parents : List ℕ) → (moves b v : ℕ) → Run ℕ
child_holding parents moves b v = while (climb_goes parents b) (climb_move parents) moves v

-- the walk from the child at `place` to the base child at place 0
pub record Turning : Type 0 where
  pub place : ℕ
  pub state : State

unfoldable pub turning_goes : Turning → Run Bool
turning_goes k = ok (not (eqb k.place 0))

-- the edge with end p is matched
unfoldable pub match_end : Graph → ℕ → State → Run State
match_end G p s = do
  a ← endpoint G p
  b ← endpoint G (beside p)
  s ← put_mate a (beside p) s
  put_mate b p s

-- the child at place i is the group's first, and its base the group's
unfoldable pub reroot : (b i v : ℕ) → State → Run State
reroot b i v s = do
  kids ← at s.forest.children b
  ends ← at s.forest.ring_ends b
  s ← put_children b (rotate i kids) s
  s ← put_ring_ends b (rotate i ends) s
  c ← at (rotate i kids) 0
  base ← at s.forest.bases c
  s ← put_base b base s
  _ ← must (eqb base v)
  ok s

-- `turns n c` says which child of a ring is turned: one that is a group (`is_group`). It is a parameter so that the source's own
-- test, `tmp > num_nodes`, which leaves group n alone, can be put in its place and compared.
module _ (turns : (n c : ℕ) → Bool) where
  -- one child of the ring, entered at end p: where it is one that is turned, it is re-rooted the same way
  unfoldable pub turn_child : Graph → (sub : ℕ → ℕ → State → Run State) → (c p : ℕ) → State → Run State
  turn_child G sub c p s = do
    v ← endpoint G p
    only_if (turns G.nodes c) (sub c v) s

  -- the next two children are turned, and the edge between them is matched
  unfoldable pub turning_move : Graph → (sub : ℕ → ℕ → State → Run State) → (b : ℕ) → (forward : Bool) → Turning → Run Turning
  turning_move G sub b forward k = do
    kids ← at k.state.forest.children b
    ends ← at k.state.forest.ring_ends b
    let i = around forward (length kids) k.place
    let j = around forward (length kids) i
    p ← link_end forward ends i
    c ← at kids i
    s ← turn_child G sub c p k.state
    d ← at kids j
    s ← turn_child G sub d (beside p) s
    s ← match_end G p s
    ok (record { place = j; state = s })

  -- group b turned so that node v is its base; sub turns a group one level down
  unfoldable pub turn_group : Graph → (sub : ℕ → ℕ → State → Run State) → (b v : ℕ) → State → Run State
  turn_group G sub b v s = do
    t ← child_holding s.forest.parents (2 * G.nodes) b v
    s ← only_if (is_group G.nodes t) (sub t v) s
    kids ← at s.forest.children b
    i ← position t kids
    k ← while turning_goes (turning_move G sub b (is_odd i)) (2 * G.nodes) (record { place = i; state = s })
    reroot b i v k.state

  unfoldable pub augment_group : Graph → (depth : ℕ) → (b v : ℕ) → State → Run State
  augment_group G zero b v s = fault
  augment_group G (suc depth) b v s = turn_group G (λ c u s. augment_group G depth c u s) b v s

  -- where b is a group
  unfoldable pub augment_top : Graph → (b v : ℕ) → State → Run State
  augment_top G b v s = only_if (is_group G.nodes b) (augment_group G G.nodes b v) s

-- ---- `augment_matching`

-- node v is to be matched by end p; over where v's root has been reached
pub record Trail : Type 0 where
  pub v : ℕ
  pub p : ℕ
  pub over : Bool
  pub state : State

unfoldable pub trail_goes : Trail → Run Bool
trail_goes k = ok (not k.over)

-- the label-1 group of v is turned and v matched; the result is the end through which the group was reached
pub record Reached : Type 0 where
  pub from : ℕ
  pub state : State

module _ (turns : (n c : ℕ) → Bool) where
  unfoldable pub through_label1 : Graph → (v p : ℕ) → State → Run Reached
  through_label1 G v p s = do
    b ← at s.forest.tops v
    l ← at s.labelling.labels b
    _ ← must (eqb l 1)
    e ← at s.labelling.label_ends b
    m ← base_mate s b
    _ ← must (eqb e m)
    s ← augment_top turns G b v s
    s ← put_mate v p s
    ok (record { from = e; state = s })

  -- the label-2 group at end e is turned, and the next node to match is found
  unfoldable pub through_label2 : Graph → ℕ → State → Run Trail
  through_label2 G e s = do
    t ← endpoint G e
    b ← at s.forest.tops t
    l ← at s.labelling.labels b
    _ ← must (eqb l 2)
    f ← at s.labelling.label_ends b
    f ← present f
    v ← endpoint G f
    j ← endpoint G (beside f)
    base ← at s.forest.bases b
    _ ← must (eqb base t)
    s ← augment_top turns G b j s
    s ← put_mate j f s
    ok (record { v = v; p = beside f; over = false; state = s })

  unfoldable pub trail_move : Graph → Trail → Run Trail
  trail_move G k = do
    r ← through_label1 G k.v k.p k.state
    if is_missing r.from then ok (record { v = k.v; p = k.p; over = true; state = r.state })
        else through_label2 G r.from r.state

  unfoldable pub match_trail : Graph → (v p : ℕ) → State → Run State
  match_trail G v p s = do
    k ← while trail_goes (trail_move G) (2 * G.nodes) (record { v = v; p = p; over = false; state = s })
    ok k.state

  -- ---- the whole: afterwards each mate names back

  unfoldable pub augment_matching : Graph → ℕ → State → Run State
  augment_matching G e s = do
    x ← at G.edges e
    s ← match_trail G x.first (2 * e + 1) s
    s ← match_trail G x.second (2 * e) s
    _ ← must (mates_pass G s.pairing.mates)
    ok s
