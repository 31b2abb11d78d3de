-- The search with document 01's causes of FAULT, and no others: Leaves, Add, Expand, Adjust, Steps and Plan anew, without the five tests there
-- that no rule names. A leaf list may hold any number of nodes; a new group may have any odd number of children from three on; there may be
-- any number of links; a new number may be any that was free; and there may be any number of free ones. Each routine has the name of the one
-- that it stands for; what is not here is that of the other files, the queue's limit of 2n included, which document 01 has.
-- `proofs/Steady.antt` shows that each step of a run, and each plan call, is the same. Definitions only.
use Rattle.std.specs.Prelude.{if◌then◌else◌, Bool, true, false, not, ◌&&◌, List, [], ◌∷◌, ◌++◌, reverse, map, ℕ, zero, suc, ◌*◌, ◌/◌, pos}
use Rattle.std.specs.Prelude.{eqb, ltb, leb, length}
use Rattle.std.specs.Int.Signed.{le_z}
use Rattle.laws.specs.Integers.{is_zero}
use Rattle.laws.specs.Lists.{repeats}
use Rattle.laws.specs.Run.{Run, ok, fault, ◌>>=◌, must, only_if, for_each, for_range, while, at, pop, position}
use Rattle.matching.specs.Graph.{Graph, graph_of, Edge, missing, is_odd, is_missing, is_group, beside}
use Rattle.steps.specs.Ends.{present, endpoint, slack_of, far_ends}
use Rattle.steps.specs.State.{State, Phase, opening, searching, closing, ended, start}
use Rattle.steps.specs.Stores.{with_free, with_queue, with_stage, with_phase, put_label, put_label_end, put_top, put_parent, put_base, put_best}
use Rattle.steps.specs.Stores.{put_children, put_ring_ends, put_best_list, put_allowed}
use Rattle.steps.specs.Label.{label2}
use Rattle.steps.specs.Scan.{scan}
use Rattle.steps.specs.Add.{trace, adopt, settle, take_in, Link, insert_link, Gathered, tightest}
use Rattle.steps.specs.Ring.{around}
use Rattle.steps.specs.Augment.{augment_matching}
use Rattle.steps.specs.Expand.{bring_top, relabel_goes, relabel_move, relabel_base, Onward, onward_goes, first_labelled, relabel_from}
use Rattle.steps.specs.Adjust.{Delta, no_delta, type1, type2, type3, type4, choose_delta, move_duals, follow2, follow3, is_outermost}
use Rattle.steps.specs.Steps.{open_stage, reach, keep_edge, is_closing}
use Rattle.steps.specs.Refusals.{Intake, fine, refused, Room, intake}
use Rattle.steps.specs.Plan.{Ending, finished, spent, is_ended, onward, Plan, DONE, REFUSED, cleared, plan_end}

-- ---- Leaves

unfoldable pub leaves : (n : ℕ) → (children : List (List ℕ)) → (depth b : ℕ) → (out : List ℕ) → Run (List ℕ)
leaves n children zero b out = if ltb b n then ok (out ++ (b ∷ [])) else fault
leaves n children (suc depth) b out =
    if ltb b n then ok (out ++ (b ∷ []))
    else (at children b >>= λ kids. for_each (λ c out. leaves n children depth c out) kids out)

unfoldable pub leaves_of : Graph → State → ℕ → Run (List ℕ)
leaves_of G s b = leaves G.nodes s.forest.children G.nodes b []

-- ---- Add

-- an odd number of children, three or more, none twice
unfoldable pub fit_children : List ℕ → Bool
fit_children kids = is_odd (length kids) && leb 3 (length kids) && not (repeats kids)

unfoldable pub ring_up : (new base : ℕ) → (kids ends : List ℕ) → State → Run State
ring_up new base kids ends s = do
  _ ← must (fit_children kids)
  s ← put_base new base s
  s ← put_parent new missing s
  s ← for_each (adopt new) kids s
  s ← put_children new kids s
  put_ring_ends new ends s

unfoldable pub consider_to : Graph → State → (j e : ℕ) → List Link → Run (List Link)
consider_to G s j e links = do
  l ← at s.labelling.labels j
  only_if (eqb l 1) (insert_link G s.pairing.duals j e) links

unfoldable pub consider : Graph → State → (new : ℕ) → ℕ → List Link → Run (List Link)
consider G s new e links = do
  x ← at G.edges e
  t ← at s.forest.tops x.second
  j ← at s.forest.tops (if eqb t new then x.first else x.second)
  only_if (not (eqb j new)) (consider_to G s j e) links

unfoldable pub consider_at : Graph → State → (new : ℕ) → ℕ → List Link → Run (List Link)
consider_at G s new v links = for_each (λ p links. consider G s new (p / 2) links) (far_ends G v) links

unfoldable pub consider_child : Graph → State → (new c : ℕ) → (own : List ℕ) → List Link → Run (List Link)
consider_child G s new c [] links = do
  vs ← leaves_of G s c
  for_each (consider_at G s new) vs links
consider_child G s new c (e ∷ es) links = for_each (consider G s new) (e ∷ es) links

unfoldable pub gather : Graph → (new : ℕ) → ℕ → Gathered → Run Gathered
gather G new c k = do
  own ← at k.state.labelling.best_lists c
  links ← consider_child G k.state new c own k.links
  s ← put_best_list c [] k.state
  s ← put_best c missing s
  ok (record { links = links; state = s })

unfoldable pub best_edges : Graph → (new : ℕ) → List ℕ → State → Run State
best_edges G new kids s = do
  k ← for_each (gather G new) kids (record { links = []; state = s })
  let es = map (λ (x : Link). x.edge) k.links
  s ← put_best_list new es k.state
  best ← for_each (tightest G s.pairing.duals) es missing
  put_best new best s

unfoldable pub add_group : Graph → (base e : ℕ) → State → Run State
add_group G base e s = do
  x ← at G.edges e
  first ← at s.forest.tops base
  bv ← at s.forest.tops x.first
  bw ← at s.forest.tops x.second
  a ← trace G s first bv
  b ← trace G s first bw
  let kids = reverse (a.kids ++ (first ∷ [])) ++ b.kids
  let ends = reverse a.ends ++ (2 * e ∷ []) ++ map beside b.ends
  f ← pop s.forest.free
  let new = f.last
  s ← ring_up new base kids ends (with_free f.rest s)
  s ← settle new first s
  vs ← leaves_of G s new
  s ← for_each (take_in G new) vs s
  best_edges G new kids s

-- ---- Expand

unfoldable pub keep_child : Graph → ℕ → State → Run State
keep_child G c s = do
  vs ← leaves_of G s c
  for_each (bring_top c) vs s

unfoldable pub free_group : Graph → (sub : ℕ → State → Run State) → (last : Bool) → ℕ → State → Run State
free_group G sub true c s = do
  d ← at s.pairing.duals c
  let opened = sub c s
  let stays = keep_child G c s
  if is_zero d then opened else stays
free_group G sub false c s = keep_child G c s

unfoldable pub free_child : Graph → (sub : ℕ → State → Run State) → (last : Bool) → ℕ → State → Run State
free_child G sub last c s = do
  s ← put_parent c missing s
  if ltb c G.nodes then put_top c c s else free_group G sub last c s

unfoldable pub relabel_reached : Graph → ℕ → State → Run State
relabel_reached G c s = do
  vs ← leaves_of G s c
  v ← first_labelled s 0 vs
  l ← at s.labelling.labels v
  only_if (not (eqb l 0)) (relabel_from G c v) s

unfoldable pub onward_move : Graph → (b : ℕ) → (forward : Bool) → Onward → Run Onward
onward_move G b forward k = do
  kids ← at k.state.forest.children b
  c ← at kids k.place
  l ← at k.state.labelling.labels c
  s ← only_if (not (eqb l 1)) (relabel_reached G c) k.state
  ok (record { place = around forward (length kids) k.place; state = s })

unfoldable pub relabel_ring : Graph → ℕ → State → Run State
relabel_ring G b s = do
  e ← at s.labelling.label_ends b
  e ← present e
  v ← endpoint G (beside e)
  entry ← at s.forest.tops v
  kids ← at s.forest.children b
  i ← position entry kids
  let forward = is_odd i
  k ← while relabel_goes (relabel_move G b forward) (2 * G.nodes) (record { place = i; p = e; state = s })
  base ← at kids 0
  s ← relabel_base G base k.p k.state
  o ←
      while (onward_goes b entry) (onward_move G b forward) (2 * G.nodes)
      (record { place = around forward (length kids) 0; state = s })
  ok o.state

-- the group's number goes on the end of the free numbers
unfoldable pub retire : ℕ → State → Run State
retire b s = do
  s ← put_label b missing s
  s ← put_label_end b missing s
  s ← put_children b [] s
  s ← put_ring_ends b [] s
  s ← put_base b missing s
  s ← put_best b missing s
  ok (with_free (s.forest.free ++ (b ∷ [])) s)

unfoldable pub expand_group : Graph → (depth : ℕ) → (last : Bool) → (b : ℕ) → State → Run State
expand_group G zero last b s = fault
expand_group G (suc depth) last b s = do
  kids ← at s.forest.children b
  s ← for_each (free_child G (λ c s. expand_group G depth last c s) last) kids s
  l ← at s.labelling.labels b
  s ← only_if (not last && eqb l 2) (relabel_ring G b) s
  retire b s

unfoldable pub expand_top : Graph → (last : Bool) → (b : ℕ) → State → Run State
expand_top G last b s = expand_group G G.nodes last b s

-- ---- Adjust

unfoldable pub follow : Graph → Delta → State → Run State
follow G no_delta s = fault
follow G (type1 d) s = move_duals G d s >>= λ s. ok (with_phase ended s)
follow G (type2 d e) s = move_duals G d s >>= λ s. follow2 G e s
follow G (type3 d e) s = move_duals G d s >>= λ s. follow3 G e s
follow G (type4 d b) s = move_duals G d s >>= λ s. expand_top G false b s

unfoldable pub adjust_duals : Graph → (flag : Bool) → State → Run State
adjust_duals G flag s = do
  d ← choose_delta G flag s
  follow G d s

-- ---- Steps

module _ (turns : (n c : ℕ) → Bool) where
  unfoldable pub join : Graph → (v w e : ℕ) → State → Run State
  join G v w e s = do
    base ← scan G v w s
    if is_missing base then (augment_matching turns G e s >>= λ s. ok (with_phase closing s)) else add_group G base e s

  unfoldable pub use_edge : Graph → (v w p l lw : ℕ) → State → Run State
  use_edge G v w p l lw s =
      if eqb l 0 then label2 G w (beside p) s
      else if eqb l 1 then join G v w (p / 2) s else only_if (eqb lw 0) (reach w p) s

  unfoldable pub pass_edge : Graph → (v w p : ℕ) → State → Run State
  pass_edge G v w p s = do
    let e = p / 2
    a ← at s.labelling.allowed e
    k ← if a then ok (pos 0) else slack_of G s.pairing.duals e
    s ← only_if (not a && le_z k (pos 0)) (put_allowed e true) s
    now ← at s.labelling.allowed e
    t ← at s.forest.tops w
    l ← at s.labelling.labels t
    lw ← at s.labelling.labels w
    if now then use_edge G v w p l lw s else keep_edge G v w e l lw k s

  unfoldable pub visit : Graph → (v p : ℕ) → State → Run State
  visit G v p s = do
    w ← endpoint G p
    bv ← at s.forest.tops v
    bw ← at s.forest.tops w
    only_if (not (eqb bv bw)) (pass_edge G v w p) s

  unfoldable pub visit_all : Graph → ℕ → List ℕ → State → Run State
  visit_all G v [] s = ok s
  visit_all G v (p ∷ ps) s = do
    s ← visit G v p s
    let later = visit_all G v ps s
    if is_closing s.progress.phase then ok s else later

  unfoldable pub take_node : Graph → State → Run State
  take_node G s = do
    q ← pop s.labelling.queue
    let s = with_queue q.rest s
    t ← at s.forest.tops q.last
    l ← at s.labelling.labels t
    _ ← must (eqb l 1)
    visit_all G q.last (far_ends G q.last) s

unfoldable pub close_group : Graph → ℕ → State → Run State
close_group G b s = do
  outermost ← is_outermost s b
  l ← at s.labelling.labels b
  d ← at s.pairing.duals b
  only_if (outermost && eqb l 1 && is_zero d) (expand_top G true b) s

unfoldable pub close_stage : Graph → State → Run State
close_stage G s = do
  s ← for_range (close_group G) G.nodes G.nodes s
  let s = with_stage (suc s.progress.stage) s
  ok (with_phase (if eqb s.progress.stage G.nodes then ended else opening) s)

module _ (turns : (n c : ℕ) → Bool) where
  unfoldable pub take_or_adjust : Graph → (flag : Bool) → (queue : List ℕ) → State → Run State
  take_or_adjust G flag [] s = adjust_duals G flag s
  take_or_adjust G flag (v ∷ vs) s = take_node turns G s

  unfoldable pub step_at : Graph → (flag : Bool) → Phase → State → Run State
  step_at G flag opening s = open_stage G s
  step_at G flag searching s = take_or_adjust G flag s.labelling.queue s
  step_at G flag closing s = close_stage G s
  step_at G flag ended s = ok s

  unfoldable pub step : Graph → (flag : Bool) → State → Run State
  step G flag s = step_at G flag s.progress.phase s

  -- ---- Plan

  unfoldable pub run_by : Graph → (flag : Bool) → (left count : ℕ) → State → Ending
  run_by G flag zero count s = if is_ended s.progress.phase then finished count s else spent count
  run_by G flag (suc left) count s =
      let next = onward count (λ s. run_by G flag left (suc count) s) (step G flag s) in
      if is_ended s.progress.phase then finished count s else next

unfoldable pub run : Graph → (flag : Bool) → (left count : ℕ) → State → Ending
run G flag left count s = run_by is_group G flag left count s

unfoldable pub plan_fine : Graph → (flag : Bool) → (budget : ℕ) → Room → List Edge → Plan
plan_fine G flag budget room [] = cleared room DONE 0
plan_fine G flag budget room (x ∷ xs) = plan_end G flag room (run G flag budget 0 (start G))

unfoldable pub plan_after : Graph → (flag : Bool) → (budget : ℕ) → Room → Intake → Plan
plan_after G flag budget room fine = plan_fine G flag budget room G.edges
plan_after G flag budget room (refused r) = cleared room (REFUSED r) 0

unfoldable pub plan : Room → (n : ℕ) → List Edge → (flag : Bool) → (budget : ℕ) → Plan
plan room n edges flag budget = plan_after (graph_of n edges) flag budget room (intake n edges room)
