-- `assign_label`: a node and its outermost group get label 1 or 2; label 2 passes label 1 to the base's mate.
-- Definitions only.
use Rattle.std.specs.Prelude.{◌&&◌, ℕ, ◌*◌, eqb}
use Rattle.laws.specs.Run.{Run, ok, ◌>>=◌, must, at, push}
use Rattle.matching.specs.Graph.{Graph, missing, beside}
use Rattle.steps.specs.Ends.{present, endpoint}
use Rattle.steps.specs.State.{State}
use Rattle.steps.specs.Stores.{with_queue, put_label, put_label_end, put_best}
use Rattle.steps.specs.Leaves.{leaves_after}

-- node v goes on the end of the queue, which holds at most 2n
unfoldable pub enqueue : Graph → ℕ → State → Run State
enqueue G v s = do
  q ← push (2 * G.nodes) v s.labelling.queue
  ok (with_queue q s)

-- node w and its outermost group b, both unlabelled, get label t through end p
unfoldable pub mark : (w b t p : ℕ) → State → Run State
mark w b t p s = do
  lw ← at s.labelling.labels w
  lb ← at s.labelling.labels b
  _ ← must (eqb lw 0 && eqb lb 0)
  s ← put_label w t s
  s ← put_label b t s
  s ← put_label_end b p s
  s ← put_label_end w p s
  s ← put_best w missing s
  put_best b missing s

-- the mate of a group's base, which may be missing
unfoldable pub base_mate : State → ℕ → Run ℕ
base_mate s b = do
  base ← at s.forest.bases b
  base ← present base
  at s.pairing.mates base

-- t == 1: the group's nodes are queued
unfoldable pub label1 : Graph → (w p : ℕ) → State → Run State
label1 G w p s = do
  b ← at s.forest.tops w
  s ← mark w b 1 p s
  q ← leaves_after G s b s.labelling.queue
  ok (with_queue q s)

-- t == 2: the mate of the group's base gets label 1
unfoldable pub label2 : Graph → (w p : ℕ) → State → Run State
label2 G w p s = do
  b ← at s.forest.tops w
  s ← mark w b 2 p s
  m ← base_mate s b
  m ← present m
  u ← endpoint G m
  label1 G u (beside m) s
