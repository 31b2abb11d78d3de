-- The four kinds of step: opening a stage, taking a node, adjusting the duals, closing a stage.
-- In the source they stand in the loops of `max_weight_matching`. Definitions only.
use Rattle.std.specs.Prelude.{if◌then◌else◌, Bool, true, false, not, ◌&&◌, List, [], ◌∷◌, ◌++◌, ℕ, suc, ◌*◌, ◌/◌, ℤ, pos, eqb, replicate, take}
use Rattle.std.specs.Int.Signed.{lt_z, le_z}
use Rattle.laws.specs.Integers.{is_zero}
use Rattle.laws.specs.Run.{Run, ok, ◌>>=◌, must, only_if, for_range, at, pop}
use Rattle.matching.specs.Graph.{Graph, edge_count, missing, is_missing, beside}
use Rattle.steps.specs.Ends.{endpoint, slack_of, far_ends}
use Rattle.steps.specs.State.{State, Phase, opening, searching, closing, ended}
use Rattle.steps.specs.Stores.{with_labelling, with_queue, with_stage, with_phase, put_label, put_label_end, put_best, put_allowed}
use Rattle.steps.specs.Label.{label1, label2}
use Rattle.steps.specs.Scan.{scan}
use Rattle.steps.specs.Add.{add_group}
use Rattle.steps.specs.Augment.{augment_matching}
use Rattle.steps.specs.Expand.{expand_top}
use Rattle.steps.specs.Adjust.{adjust_duals, is_outermost}

-- ---- opening a stage

unfoldable pub forget : Graph → State → State
forget G s =
    let n = G.nodes in
    with_labelling
    (record {
      labels = replicate (2 * n) 0;
      label_ends = replicate (2 * n) missing;
      best = replicate (2 * n) missing;
      best_lists = take n s.labelling.best_lists ++ replicate n [];
      allowed = replicate (edge_count G) false;
      queue = [];
    })
    s

-- an unmatched node whose outermost group is unlabelled is a root
unfoldable pub root_at : Graph → ℕ → State → Run State
root_at G v s = do
  m ← at s.pairing.mates v
  t ← at s.forest.tops v
  l ← at s.labelling.labels t
  only_if (is_missing m && eqb l 0) (label1 G v missing) s

unfoldable pub open_stage : Graph → State → Run State
open_stage G s = do
  s ← for_range (root_at G) 0 G.nodes (forget G s)
  ok (with_phase searching s)

-- ---- taking a node

-- a node of a label-2 group is reached for the first time
unfoldable pub reach : (w p : ℕ) → State → Run State
reach w p s = do
  t ← at s.forest.tops w
  l ← at s.labelling.labels t
  _ ← must (eqb l 2)
  s ← put_label w 2 s
  put_label_end w (beside p) s

-- the edge e of slack k is the best one yet at i
unfoldable pub keep_best : Graph → (i e : ℕ) → ℤ → State → Run State
keep_best G i e k s = do
  b ← at s.labelling.best i
  if is_missing b then put_best i e s else (slack_of G s.pairing.duals b >>= λ d. only_if (lt_z k d) (put_best i e) s)

-- the edge is not allowed: it is kept for its group, or for the free node that it leads to
unfoldable pub keep_edge : Graph → (v w e l lw : ℕ) → ℤ → State → Run State
keep_edge G v w e l lw k s =
    if eqb l 1 then (at s.forest.tops v >>= λ b. keep_best G b e k s) else only_if (eqb lw 0) (keep_best G w e k) s

abbrev pub is_closing : Phase → Bool
is_closing opening = false
is_closing searching = false
is_closing closing = true
is_closing ended = false

-- `turns` is that of Augment
module _ (turns : (n c : ℕ) → Bool) where
  -- the edge between two label-1 groups closes a ring or ends a path
  unfoldable pub join : Graph → (v w e : ℕ) → State → Run State
  join G v w e s = do
    base ← scan G v w s
    if is_missing base then (augment_matching turns G e s >>= λ s. ok (with_phase closing s)) else add_group G base e s

  -- the edge is allowed: l is the label of w's outermost group, lw that of w
  unfoldable pub use_edge : Graph → (v w p l lw : ℕ) → State → Run State
  use_edge G v w p l lw s =
      if eqb l 0 then label2 G w (beside p) s
      else if eqb l 1 then join G v w (p / 2) s else only_if (eqb lw 0) (reach w p) s

  -- what is found of an edge: whether it is allowed, and else its slack
  unfoldable pub pass_edge : Graph → (v w p : ℕ) → State → Run State
  pass_edge G v w p s = do
    let e = p / 2
    a ← at s.labelling.allowed e
    k ← if a then ok (pos 0) else slack_of G s.pairing.duals e
    s ← only_if (not a && le_z k (pos 0)) (put_allowed e true) s
    now ← at s.labelling.allowed e
    t ← at s.forest.tops w
    l ← at s.labelling.labels t
    lw ← at s.labelling.labels w
    if now then use_edge G v w p l lw s else keep_edge G v w e l lw k s

  -- the neighbour at end p; an edge within one group is passed over
  unfoldable pub visit : Graph → (v p : ℕ) → State → Run State
  visit G v p s = do
    w ← endpoint G p
    bv ← at s.forest.tops v
    bw ← at s.forest.tops w
    only_if (not (eqb bv bw)) (pass_edge G v w p) s

  -- the neighbours in order, until they end or the matching is augmented
  unfoldable pub visit_all : Graph → ℕ → List ℕ → State → Run State
  visit_all G v [] s = ok s
  visit_all G v (p ∷ ps) s = do
    s ← visit G v p s
    let later = visit_all G v ps s
    if is_closing s.progress.phase then ok s else later

  unfoldable pub take_node : Graph → State → Run State
  take_node G s = do
    q ← pop s.labelling.queue
    let s = with_queue q.rest s
    t ← at s.forest.tops q.last
    l ← at s.labelling.labels t
    _ ← must (eqb l 1)
    visit_all G q.last (far_ends G q.last) s

-- ---- closing a stage

-- an outermost label-1 group with dual 0 is expanded
unfoldable pub close_group : Graph → ℕ → State → Run State
close_group G b s = do
  outermost ← is_outermost s b
  l ← at s.labelling.labels b
  d ← at s.pairing.duals b
  only_if (outermost && eqb l 1 && is_zero d) (expand_top G true b) s

-- the run ends after its nth stage
unfoldable pub close_stage : Graph → State → Run State
close_stage G s = do
  s ← for_range (close_group G) G.nodes G.nodes s
  let s = with_stage (suc s.progress.stage) s
  ok (with_phase (if eqb s.progress.stage G.nodes then ended else opening) s)

-- ---- the next step

module _ (turns : (n c : ℕ) → Bool) where
  unfoldable pub take_or_adjust : Graph → (flag : Bool) → (queue : List ℕ) → State → Run State
  take_or_adjust G flag [] s = adjust_duals G flag s
  take_or_adjust G flag (v ∷ vs) s = take_node turns G s

  unfoldable pub step_at : Graph → (flag : Bool) → Phase → State → Run State
  step_at G flag opening s = open_stage G s
  step_at G flag searching s = take_or_adjust G flag s.labelling.queue s
  step_at G flag closing s = close_stage G s
  step_at G flag ended s = ok s

  unfoldable pub step : Graph → (flag : Bool) → State → Run State
  step G flag s = step_at G flag s.progress.phase s
