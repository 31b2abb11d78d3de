-- Frames: the routines that store labels, best edges, allowed edges, the queue, duals or the phase leave the forest and the mates as
-- they were. Said once for any fact I of a forest and mates: where I holds of a state, it holds of what the routine makes of it.
use mathlib.Core.Bool.{Bool, true, not, ◌&&◌}
use mathlib.Core.List.{List, [], map}
use Prim.Native.Nat.{ℕ, ◌*◌, ◌/◌}
use lib.Dec.{eqb, leb}
use lib.IntN.{ℤ, pos, nat_abs, ◌+ℤ◌, ◌-ℤ◌}
use lib.Signed.{lt_z}
use lib.ListN.{length}
use Rattle.laws.specs.Run.{must, for_each, at, put, push, position}
use Rattle.laws.proofs.Kept.{Kept, kept, kept_bind, kept_only_if, kept_for_each, kept_for_range, kept_while}
use Rattle.laws.proofs.Keeping.{skip, either_way}
use Rattle.matching.specs.Graph.{Graph, missing, is_missing, is_odd, beside}
use Rattle.matching.specs.Certificate.{max_dual}
use Rattle.steps.specs.Ends.{present, endpoint, slack_of}
use Rattle.steps.specs.State.{State, Forest}
use Rattle.steps.specs.Stores.{put_label, put_label_end, put_best, put_best_list, put_allowed, put_dual}
use Rattle.steps.specs.Leaves.{leaves_after, leaves_of}
use Rattle.steps.specs.Label.{enqueue, mark, base_mate, label1, label2}
use Rattle.steps.specs.Add.{Link, settle, Gathered, consider_child, gather, tightest, best_edges}
use Rattle.steps.specs.Ring.{around, link_end}
use Rattle.steps.specs.Expand.{Relabel, unlabel, relabel_move, relabel_base, Onward, onward_goes, first_labelled, relabel_from, relabel_reached}
use Rattle.steps.specs.Expand.{onward_move, relabel_ring}
use Rattle.steps.specs.Adjust.{is_outermost, put_fit_dual, move_node, move_group, move_duals, resume, labelled_end, follow2, follow3}
use Rattle.steps.specs.Steps.{forget, root_at, open_stage, reach, keep_best, keep_edge}

-- the fact, of a state
abbrev pub Of : (Forest → List ℕ → Type 0) → State → Type 0
Of I s = I s.forest s.pairing.mates

module _ (I : Forest → List ℕ → Type 0) where
  -- ---- one entry

  pub label_keeps : (i v : ℕ) (s : State) → Of I s → Kept (Of I) (put_label i v s)
  label_keeps i v s h = skip (put s.labelling.labels i v) _ (λ l. kept h)

  pub end_keeps : (i v : ℕ) (s : State) → Of I s → Kept (Of I) (put_label_end i v s)
  end_keeps i v s h = skip (put s.labelling.label_ends i v) _ (λ l. kept h)

  pub best_keeps : (i v : ℕ) (s : State) → Of I s → Kept (Of I) (put_best i v s)
  best_keeps i v s h = skip (put s.labelling.best i v) _ (λ l. kept h)

  pub list_keeps : (i : ℕ) (v : List ℕ) (s : State) → Of I s → Kept (Of I) (put_best_list i v s)
  list_keeps i v s h = skip (put s.labelling.best_lists i v) _ (λ l. kept h)

  pub allowed_keeps : (i : ℕ) (v : Bool) (s : State) → Of I s → Kept (Of I) (put_allowed i v s)
  allowed_keeps i v s h = skip (put s.labelling.allowed i v) _ (λ l. kept h)

  dual_keeps : (i : ℕ) (v : ℤ) (s : State) → Of I s → Kept (Of I) (put_dual i v s)
  dual_keeps i v s h = skip (put s.pairing.duals i v) _ (λ l. kept h)

  -- ---- labels

  pub enqueue_keeps : (G : Graph) (v : ℕ) (s : State) → Of I s → Kept (Of I) (enqueue G v s)
  unfolding enqueue
  enqueue_keeps G v s h = skip (push (2 * G.nodes) v s.labelling.queue) _ (λ q. kept h)

  mark_keeps : (w b t p : ℕ) (s : State) → Of I s → Kept (Of I) (mark w b t p s)
  unfolding mark
  mark_keeps w b t p s h =
      skip (at s.labelling.labels w) _ (λ lw. skip (at s.labelling.labels b) _ (λ lb. skip (must (eqb lw 0 && eqb lb 0)) _ (λ u.
      kept_bind (label_keeps w t s h) (λ s h. kept_bind (label_keeps b t s h) (λ s h. kept_bind (end_keeps b p s h) (λ s h.
      kept_bind (end_keeps w p s h) (λ s h. kept_bind (best_keeps w missing s h) (λ s h. best_keeps b missing s h))))))))

  pub label1_keeps : (G : Graph) (w p : ℕ) (s : State) → Of I s → Kept (Of I) (label1 G w p s)
  unfolding label1
  label1_keeps G w p s h =
      skip (at s.forest.tops w) _ (λ b. kept_bind (mark_keeps w b 1 p s h) (λ s h. skip (leaves_after G s b s.labelling.queue) _ (λ q. kept h)))

  pub label2_keeps : (G : Graph) (w p : ℕ) (s : State) → Of I s → Kept (Of I) (label2 G w p s)
  unfolding label2
  label2_keeps G w p s h =
      skip (at s.forest.tops w) _ (λ b. kept_bind (mark_keeps w b 2 p s h) (λ s h. skip (base_mate s b) _ (λ m. skip (present m) _ (λ m.
      skip (endpoint G m) _ (λ u. label1_keeps G u (beside m) s h)))))

  -- ---- a new group's labels and best edges

  pub settle_keeps : (new first : ℕ) (s : State) → Of I s → Kept (Of I) (settle new first s)
  unfolding settle
  settle_keeps new first s h =
      skip (at s.labelling.labels first) _ (λ l. skip (must (eqb l 1)) _ (λ u. kept_bind (label_keeps new 1 s h) (λ s h.
      skip (at s.labelling.label_ends first) _ (λ e. kept_bind (end_keeps new e s h) (λ s h. dual_keeps new (pos 0) s h)))))

  gather_keeps : (G : Graph) (new c : ℕ) (k : Gathered) → Of I k.state → Kept (λ k. Of I k.state) (gather G new c k)
  unfolding gather
  gather_keeps G new c k h =
      skip (at k.state.labelling.best_lists c) _ (λ own. skip (consider_child G k.state new c own k.links) _ (λ links.
      kept_bind (list_keeps c [] k.state h) (λ s h. kept_bind (best_keeps c missing s h) (λ s h. kept h))))

  pub best_edges_keep : (G : Graph) (new : ℕ) (kids : List ℕ) (s : State) → Of I s → Kept (Of I) (best_edges G new kids s)
  unfolding best_edges
  best_edges_keep G new kids s h =
      kept_bind (kept_for_each {I = λ k. Of I k.state} (λ c k h. gather_keeps G new c k h) kids h) (λ k h.
      kept_bind (list_keeps new (map (λ (x : Link). x.edge) k.links) k.state h) (λ s h.
      skip (for_each (tightest G s.pairing.duals) (map (λ (x : Link). x.edge) k.links) missing) _ (λ best. best_keeps new best s h)))

  -- ---- labels anew in a ring that is opened

  unlabel_keeps : (G : Graph) (p : ℕ) (s : State) → Of I s → Kept (Of I) (unlabel G p s)
  unfolding unlabel
  unlabel_keeps G p s h = skip (endpoint G (beside p)) _ (λ v. label_keeps v 0 s h)

  pub relabel_move_keeps : (G : Graph) (b : ℕ) (forward : Bool) (k : Relabel) → Of I k.state → Kept (λ k. Of I k.state) (relabel_move G b forward k)
  unfolding relabel_move
  relabel_move_keeps G b forward k h =
      skip (at k.state.forest.ring_ends b) _ (λ ends. kept_bind (unlabel_keeps G k.p k.state h) (λ s h.
      skip (link_end forward ends k.place) _ (λ q. kept_bind (unlabel_keeps G q s h) (λ s h.
      skip (endpoint G (beside k.p)) _ (λ v. kept_bind (label2_keeps G v k.p s h) (λ s h.
      kept_bind (allowed_keeps (q / 2) true s h) (λ s h. skip (link_end forward ends (around forward (length ends) k.place)) _ (λ p.
      kept_bind (allowed_keeps (p / 2) true s h) (λ s h. kept h)))))))))

  pub relabel_base_keeps : (G : Graph) (base p : ℕ) (s : State) → Of I s → Kept (Of I) (relabel_base G base p s)
  unfolding relabel_base
  relabel_base_keeps G base p s h =
      skip (endpoint G (beside p)) _ (λ v. kept_bind (label_keeps v 2 s h) (λ s h. kept_bind (label_keeps base 2 s h) (λ s h.
      kept_bind (end_keeps v p s h) (λ s h. kept_bind (end_keeps base p s h) (λ s h. best_keeps base missing s h)))))

  pub relabel_from_keeps : (G : Graph) (c v : ℕ) (s : State) → Of I s → Kept (Of I) (relabel_from G c v s)
  unfolding relabel_from
  relabel_from_keeps G c v s h =
      skip (at s.labelling.labels v) _ (λ l. skip (must (eqb l 2)) _ (λ u. skip (at s.forest.tops v) _ (λ t. skip (must (eqb t c)) _ (λ u.
      kept_bind (label_keeps v 0 s h) (λ s h. skip (base_mate s c) _ (λ m. skip (present m) _ (λ m. skip (endpoint G m) _ (λ u.
      kept_bind (label_keeps u 0 s h) (λ s h. skip (at s.labelling.label_ends v) _ (λ p. label2_keeps G v p s h))))))))))

  relabel_reached_keeps : (G : Graph) (c : ℕ) (s : State) → Of I s → Kept (Of I) (relabel_reached G c s)
  unfolding relabel_reached
  relabel_reached_keeps G c s h =
      skip (leaves_of G s c) _ (λ vs. skip (first_labelled s 0 vs) _ (λ v. skip (at s.labelling.labels v) _ (λ l.
      kept_only_if (not (eqb l 0)) (relabel_from G c v) s (λ t. relabel_from_keeps G c v s h) h)))

  onward_move_keeps : (G : Graph) (b : ℕ) (forward : Bool) (k : Onward) → Of I k.state → Kept (λ k. Of I k.state) (onward_move G b forward k)
  unfolding onward_move
  onward_move_keeps G b forward k h =
      skip (at k.state.forest.children b) _ (λ kids. skip (at kids k.place) _ (λ c. skip (at k.state.labelling.labels c) _ (λ l.
      kept_bind (kept_only_if (not (eqb l 1)) (relabel_reached G c) k.state (λ t. relabel_reached_keeps G c k.state h) h) (λ s h. kept h))))

  pub relabel_ring_keeps : (G : Graph) (b : ℕ) (s : State) → Of I s → Kept (Of I) (relabel_ring G b s)
  unfolding relabel_ring
  relabel_ring_keeps G b s h =
      skip (at s.labelling.label_ends b) _ (λ e. skip (present e) _ (λ e. skip (endpoint G (beside e)) _ (λ v.
      skip (at s.forest.tops v) _ (λ entry. skip (at s.forest.children b) _ (λ kids. skip (position entry kids) _ (λ i.
      kept_bind (kept_while {I = λ (k : Relabel). Of I k.state} (λ k h t. relabel_move_keeps G b (is_odd i) k h) (2 * G.nodes)
      (record { place = i; p = e; state = s }) h) (λ k h.
      skip (at kids 0) _ (λ base. kept_bind (relabel_base_keeps G base k.p k.state h.0) (λ s h.
      kept_bind (kept_while {I = λ (k : Onward). Of I k.state} {test = onward_goes b entry} (λ k h t. onward_move_keeps G b (is_odd i) k h)
      (2 * G.nodes) (record { place = around (is_odd i) (length kids) 0; state = s }) h) (λ o h.
      kept h.0))))))))))

  -- ---- duals, and what follows an adjustment

  fit_dual_keeps : (i : ℕ) (d : ℤ) (s : State) → Of I s → Kept (Of I) (put_fit_dual i d s)
  unfolding put_fit_dual
  fit_dual_keeps i d s h = skip (must (leb (nat_abs d) max_dual)) _ (λ u. dual_keeps i d s h)

  move_node_keeps : (delta : ℤ) (v : ℕ) (s : State) → Of I s → Kept (Of I) (move_node delta v s)
  unfolding move_node
  move_node_keeps delta v s h =
      skip (at s.forest.tops v) _ (λ t. skip (at s.labelling.labels t) _ (λ l. skip (at s.pairing.duals v) _ (λ d.
      either_way (eqb l 1) _ _ (λ t. fit_dual_keeps v (d -ℤ delta) s h) (λ f. either_way (eqb l 2) _ _ (λ t. fit_dual_keeps v (d +ℤ delta) s h) (λ f.
      kept h)))))

  move_group_keeps : (delta : ℤ) (b : ℕ) (s : State) → Of I s → Kept (Of I) (move_group delta b s)
  unfolding move_group
  move_group_keeps delta b s h =
      skip (is_outermost s b) _ (λ o. skip (at s.labelling.labels b) _ (λ l. skip (at s.pairing.duals b) _ (λ d.
      either_way (o && eqb l 1) _ _ (λ t. fit_dual_keeps b (d +ℤ delta) s h) (λ f. either_way (o && eqb l 2) _ _
      (λ t. fit_dual_keeps b (d -ℤ delta) s h) (λ f. kept h)))))

  pub move_duals_keep : (G : Graph) (delta : ℤ) (s : State) → Of I s → Kept (Of I) (move_duals G delta s)
  unfolding move_duals
  move_duals_keep G delta s h =
      kept_bind (kept_for_range (λ i. Of I) (move_node delta) (λ i s h. move_node_keeps delta i s h) 0 G.nodes s h) (λ s h.
      kept_for_range (λ i. Of I) (move_group delta) (λ i s h. move_group_keeps delta i s h) G.nodes G.nodes s h)

  resume_keeps : (G : Graph) (v : ℕ) (s : State) → Of I s → Kept (Of I) (resume G v s)
  unfolding resume
  resume_keeps G v s h =
      skip (at s.forest.tops v) _ (λ t. skip (at s.labelling.labels t) _ (λ l. skip (must (eqb l 1)) _ (λ u. enqueue_keeps G v s h)))

  pub follow2_keeps : (G : Graph) (e : ℕ) (s : State) → Of I s → Kept (Of I) (follow2 G e s)
  unfolding follow2
  follow2_keeps G e s h =
      kept_bind (allowed_keeps e true s h) (λ s h. skip (at G.edges e) _ (λ x. skip (labelled_end s x) _ (λ v. resume_keeps G v s h)))

  pub follow3_keeps : (G : Graph) (e : ℕ) (s : State) → Of I s → Kept (Of I) (follow3 G e s)
  unfolding follow3
  follow3_keeps G e s h = kept_bind (allowed_keeps e true s h) (λ s h. skip (at G.edges e) _ (λ x. resume_keeps G x.first s h))

  -- ---- opening a stage, and passing an edge

  root_keeps : (G : Graph) (v : ℕ) (s : State) → Of I s → Kept (Of I) (root_at G v s)
  unfolding root_at
  root_keeps G v s h =
      skip (at s.pairing.mates v) _ (λ m. skip (at s.forest.tops v) _ (λ t. skip (at s.labelling.labels t) _ (λ l.
      kept_only_if (is_missing m && eqb l 0) (label1 G v missing) s (λ t. label1_keeps G v missing s h) h)))

  pub open_keeps : (G : Graph) (s : State) → Of I s → Kept (Of I) (open_stage G s)
  unfolding open_stage forget
  open_keeps G s h =
      kept_bind (kept_for_range (λ i. Of I) (root_at G) (λ i s h. root_keeps G i s h) 0 G.nodes (forget G s) h) (λ s h. kept h)

  pub reach_keeps : (w p : ℕ) (s : State) → Of I s → Kept (Of I) (reach w p s)
  unfolding reach
  reach_keeps w p s h =
      skip (at s.forest.tops w) _ (λ t. skip (at s.labelling.labels t) _ (λ l. skip (must (eqb l 2)) _ (λ u.
      kept_bind (label_keeps w 2 s h) (λ s h. end_keeps w (beside p) s h))))

  keep_best_keeps : (G : Graph) (i e : ℕ) (k : ℤ) (s : State) → Of I s → Kept (Of I) (keep_best G i e k s)
  unfolding keep_best
  keep_best_keeps G i e k s h =
      skip (at s.labelling.best i) _ (λ b. either_way (is_missing b) _ _ (λ t. best_keeps i e s h)
      (λ f. skip (slack_of G s.pairing.duals b) _ (λ d. kept_only_if (lt_z k d) (put_best i e) s (λ t. best_keeps i e s h) h)))

  pub keep_edge_keeps : (G : Graph) (v w e l lw : ℕ) (k : ℤ) (s : State) → Of I s → Kept (Of I) (keep_edge G v w e l lw k s)
  unfolding keep_edge
  keep_edge_keeps G v w e l lw k s h = either_way (eqb l 1) _ _
      (λ t. skip (at s.forest.tops v) _ (λ b. keep_best_keeps G b e k s h))
      (λ f. kept_only_if (eqb lw 0) (keep_best G w e k) s (λ t. keep_best_keeps G w e k s h) h)
