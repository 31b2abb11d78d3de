-- `expand_blossom`: an outermost group is taken apart, and its children become outermost.
-- Definitions only.
use Rattle.std.specs.Prelude.{if◌then◌else◌, Bool, true, false, not, ◌&&◌, List, [], ◌∷◌, ℕ, zero, suc, ◌*◌, ◌/◌, eqb, ltb, length}
use Rattle.laws.specs.Integers.{is_zero}
use Rattle.laws.specs.Run.{Run, ok, fault, ◌>>=◌, must, only_if, for_each, while, at, push, position}
use Rattle.matching.specs.Graph.{Graph, missing, is_odd, beside}
use Rattle.steps.specs.Ends.{present, endpoint}
use Rattle.steps.specs.State.{State}
use Rattle.steps.specs.Stores.{with_free, put_label, put_label_end, put_top, put_parent, put_base, put_best, put_children, put_ring_ends, put_allowed}
use Rattle.steps.specs.Leaves.{leaves_of}
use Rattle.steps.specs.Label.{base_mate, label2}
use Rattle.steps.specs.Ring.{around, link_end}

-- ---- the children become outermost

unfoldable pub bring_top : (c v : ℕ) → State → Run State
bring_top c v s = put_top v c s

-- a child group stays a group: its nodes have it as their outermost
unfoldable pub keep_child : Graph → ℕ → State → Run State
keep_child G c s = do
  vs ← leaves_of G s c
  for_each (bring_top c) vs s

-- a child group: at the end of a stage one with dual 0 is expanded in its beside
unfoldable pub free_group : Graph → (sub : ℕ → State → Run State) → (last : Bool) → ℕ → State → Run State
free_group G sub true c s = do
  d ← at s.pairing.duals c
  let opened = sub c s
  let stays = keep_child G c s
  if is_zero d then opened else stays
free_group G sub false c s = keep_child G c s

unfoldable pub free_child : Graph → (sub : ℕ → State → Run State) → (last : Bool) → ℕ → State → Run State
free_child G sub last c s = do
  s ← put_parent c missing s
  if ltb c G.nodes then put_top c c s else free_group G sub last c s

-- ---- a label-2 group is expanded within a stage: its children get labels anew

-- the walk from the child that was entered to the base child, by steps of two; p is the end through which the child at `place` is reached
pub record Relabel : Type 0 where
  pub place : ℕ
  pub p : ℕ
  pub state : State

unfoldable pub relabel_goes : Relabel → Run Bool
relabel_goes k = ok (not (eqb k.place 0))

-- label 0 again for the node beside end p
unfoldable pub unlabel : Graph → ℕ → State → Run State
unlabel G p s = do
  v ← endpoint G (beside p)
  put_label v 0 s

-- the child at `place` gets label 2 and, through its mate, the next child label 1; both ring edges are allowed
unfoldable pub relabel_move : Graph → (b : ℕ) → (forward : Bool) → Relabel → Run Relabel
relabel_move G b forward k = do
  ends ← at k.state.forest.ring_ends b
  let i = around forward (length ends) k.place
  s ← unlabel G k.p k.state
  q ← link_end forward ends k.place
  s ← unlabel G q s
  v ← endpoint G (beside k.p)
  s ← label2 G v k.p s
  s ← put_allowed (q / 2) true s
  p ← link_end forward ends i
  s ← put_allowed (p / 2) true s
  ok (record { place = around forward (length ends) i; p = p; state = s })

-- the base child gets label 2, and passes none to its mate
unfoldable pub relabel_base : Graph → (base p : ℕ) → State → Run State
relabel_base G base p s = do
  v ← endpoint G (beside p)
  s ← put_label v 2 s
  s ← put_label base 2 s
  s ← put_label_end v p s
  s ← put_label_end base p s
  put_best base missing s

-- the walk on from the base child, back to the child that was entered
pub record Onward : Type 0 where
  pub place : ℕ
  pub state : State

unfoldable pub onward_goes : (b entry : ℕ) → Onward → Run Bool
onward_goes b entry k = do
  kids ← at k.state.forest.children b
  c ← at kids k.place
  ok (not (eqb c entry))

-- the first node with a label, or else the last; 0 where there is none
unfoldable pub first_labelled : State → ℕ → List ℕ → Run ℕ
first_labelled s v [] = ok v
first_labelled s v (x ∷ xs) = do
  l ← at s.labelling.labels x
  l ← present l
  let later = first_labelled s x xs
  if eqb l 0 then later else ok x

-- node v of child c was reached from outside: the child gets label 2 through the end that reached v
unfoldable pub relabel_from : Graph → (c v : ℕ) → State → Run State
relabel_from G c v s = do
  l ← at s.labelling.labels v
  _ ← must (eqb l 2)
  t ← at s.forest.tops v
  _ ← must (eqb t c)
  s ← put_label v 0 s
  m ← base_mate s c
  m ← present m
  u ← endpoint G m
  s ← put_label u 0 s
  p ← at s.labelling.label_ends v
  label2 G v p s

unfoldable pub relabel_reached : Graph → ℕ → State → Run State
relabel_reached G c s = do
  vs ← leaves_of G s c
  v ← first_labelled s 0 vs
  l ← at s.labelling.labels v
  only_if (not (eqb l 0)) (relabel_from G c v) s

-- a child that has label 1 by now is left as it is
unfoldable pub onward_move : Graph → (b : ℕ) → (forward : Bool) → Onward → Run Onward
onward_move G b forward k = do
  kids ← at k.state.forest.children b
  c ← at kids k.place
  l ← at k.state.labelling.labels c
  s ← only_if (not (eqb l 1)) (relabel_reached G c) k.state
  ok (record { place = around forward (length kids) k.place; state = s })

unfoldable pub relabel_ring : Graph → ℕ → State → Run State
relabel_ring G b s = do
  e ← at s.labelling.label_ends b
  e ← present e
  v ← endpoint G (beside e)
  entry ← at s.forest.tops v
  kids ← at s.forest.children b
  i ← position entry kids
  let forward = is_odd i
  k ← while relabel_goes (relabel_move G b forward) (2 * G.nodes) (record { place = i; p = e; state = s })
  base ← at kids 0
  s ← relabel_base G base k.p k.state
  o ←
      while (onward_goes b entry) (onward_move G b forward) (2 * G.nodes)
      (record { place = around forward (length kids) 0; state = s })
  ok o.state

-- ---- the whole

-- the group's number goes on the end of the free numbers, of which there are at most n
unfoldable pub retire : Graph → ℕ → State → Run State
retire G b s = do
  s ← put_label b missing s
  s ← put_label_end b missing s
  s ← put_children b [] s
  s ← put_ring_ends b [] s
  s ← put_base b missing s
  s ← put_best b missing s
  free ← push G.nodes b s.forest.free
  ok (with_free free s)

-- last: at the end of a stage
unfoldable pub expand_group : Graph → (depth : ℕ) → (last : Bool) → (b : ℕ) → State → Run State
expand_group G zero last b s = fault
expand_group G (suc depth) last b s = do
  kids ← at s.forest.children b
  s ← for_each (free_child G (λ c s. expand_group G depth last c s) last) kids s
  l ← at s.labelling.labels b
  s ← only_if (not last && eqb l 2) (relabel_ring G b) s
  retire G b s

unfoldable pub expand_top : Graph → (last : Bool) → (b : ℕ) → State → Run State
expand_top G last b s = expand_group G G.nodes last b s
