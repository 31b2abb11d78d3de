-- Augmenting keeps the invariant, and each mate names back at its end. Said of two runs at once, by tests `turns` and `turns'` that agree
-- everywhere but at number n: since n is in no ring, the two runs are one (`Agree`). With one test twice it is the plain statement.
use mathlib.Core.Path.{◌≡◌, refl}
use mathlib.Core.Bool.{Bool, false}
use mathlib.Core.Logic.{◌≢◌}
use mathlib.Core.List.{List, []}
use Prim.Native.Nat.{ℕ, zero, suc, ◌+◌, ◌*◌, ◌<◌, ◌≤◌}
use native.Mathlib.Omega.{arith}
use lib.Dec.{eqb}
use lib.ListN.{length, get_or}
use Rattle.laws.specs.Run.{Run, must, at, put, position}
use Rattle.laws.proofs.Times.{times_at}
use Rattle.laws.proofs.Kept.{Kept, kept, kept_bind, kept_at}
use Rattle.laws.proofs.Keeping.{skip, load, holding, kept_known, Agree, agree, both_torn, agree_of, agree_bind, agree_skip, agree_either}
use Rattle.laws.proofs.Keeping.{agree_only_if, agree_while}
use Rattle.matching.specs.Graph.{Graph, missing, is_missing, is_group, is_odd, beside}
use Rattle.matching.specs.Certificate.{MateHolds}
use Rattle.matching.specs.Tests.{mates_pass}
use Rattle.matching.proofs.Decided.{mates_decided}
use Rattle.steps.specs.Ends.{present, endpoint}
use Rattle.steps.specs.State.{State}
use Rattle.steps.specs.Stores.{put_mate}
use Rattle.steps.specs.Label.{base_mate}
use Rattle.steps.specs.Ring.{around, link_end}
use Rattle.steps.specs.Augment.{climb_goes, child_holding, Turning, turning_goes, match_end, turn_child, turning_move, turn_group, augment_group}
use Rattle.steps.specs.Augment.{augment_top, Trail, trail_goes, Reached, through_label1, through_label2, trail_move, match_trail, augment_matching}
use Rattle.steps.specs.Standing.{children_of}
use Rattle.steps.proofs.Turning.{Firm, never_child, rerooted}

-- a fact of the forest, of a state
abbrev Steady : ℕ → State → Type 0
Steady n s = Firm n s.forest

-- the climb reads the parent of the number that it starts from
started : (parents : List ℕ) (moves b v : ℕ) → Kept (λ t. v < length parents) (child_holding parents moves b v)
unfolding child_holding climb_goes
started parents zero b v = kept_bind {Q = λ go. v < length parents} (load parents v missing _ (λ l. kept l)) (λ go l. kept_known _ l)
started parents (suc moves) b v = kept_bind {Q = λ go. v < length parents} (load parents v missing _ (λ l. kept l)) (λ go l. kept_known _ l)

mate_stored : {n : ℕ} (i v : ℕ) (s : State) → Steady n s → Kept (Steady n) (put_mate i v s)
mate_stored i v s h = skip (put s.pairing.mates i v) _ (λ l. kept h)

matched : {n : ℕ} (G : Graph) (p : ℕ) (s : State) → Steady n s → Kept (Steady n) (match_end G p s)
unfolding match_end
matched G p s h = skip (endpoint G p) _ (λ a. skip (endpoint G (beside p)) _ (λ b. kept_bind (mate_stored a (beside p) s h) (λ s h. mate_stored _ _ s h)))

module _ (G : Graph) (fits : 2 * G.nodes ≤ missing) (turns turns' : (n c : ℕ) → Bool) (same : (c : ℕ) → c ≢ G.nodes → turns G.nodes c ≡ turns' G.nodes c) where
  -- ---- a group is re-rooted

  module _ (sub sub' : ℕ → ℕ → State → Run State) (deeper : (c v : ℕ) (s : State) → Steady G.nodes s → Agree (Steady G.nodes) (sub c v s) (sub' c v s)) where
    child_turned : (c p : ℕ) (s : State) → c ≢ G.nodes → Steady G.nodes s
        → Agree (Steady G.nodes) (turn_child turns G sub c p s) (turn_child turns' G sub' c p s)
    unfolding turn_child
    child_turned c p s d h = agree_skip (endpoint G p) _ _ (λ v. agree_only_if (turns G.nodes c) (turns' G.nodes c) (same c d) (sub c v)
        (sub' c v) s (deeper c v s h) h)

    two_turned : (b : ℕ) (forward : Bool) (k : Turning) → Steady G.nodes k.state
        → Agree (λ k. Steady G.nodes k.state) (turning_move turns G sub b forward k) (turning_move turns' G sub' b forward k)
    unfolding turning_move
    two_turned b forward k h =
        agree_bind (agree_of (kept_at k.state.forest.children b [])) (λ kids e. agree_skip (at k.state.forest.ring_ends b) _ _ (λ ends.
        agree_skip (link_end forward ends (around forward (length kids) k.place)) _ _ (λ p.
        agree_bind (agree_of (kept_at kids (around forward (length kids) k.place) 0)) (λ c x.
        agree_bind (child_turned c p k.state (other kids e (around forward (length kids) k.place) c x) h) (λ s h.
        agree_bind (agree_of (kept_at kids (around forward (length kids) (around forward (length kids) k.place)) 0)) (λ d y.
        agree_bind (child_turned d (beside p) s (other kids e (around forward (length kids) (around forward (length kids) k.place)) d y) h) (λ s h.
        agree_bind (agree_of (matched G p s h)) (λ s h. agree h))))))))
      where
        other : (kids : List ℕ) → (b < length k.state.forest.children) × (kids ≡ children_of k.state.forest b) → (i c : ℕ)
            → (i < length kids) × (c ≡ get_or kids i 0) → c ≢ G.nodes
        other kids (l, e) i c (m, q) = never_child fits h b c (omega (arith, h.ground.children_length)) (rw (← e, q) (times_at kids i 0 m))

    group_turned : (b v : ℕ) (s : State) → Steady G.nodes s → Agree (Steady G.nodes) (turn_group turns G sub b v s) (turn_group turns' G sub' b v s)
    unfolding turn_group
    group_turned b v s h =
        agree_bind (agree_of (started s.forest.parents (2 * G.nodes) b v)) (λ t l.
        agree_bind (agree_only_if (is_group G.nodes t) (is_group G.nodes t) refl (sub t v) (sub' t v) s (deeper t v s h) h) (λ s₁ h₁.
        agree_skip (at s₁.forest.children b) _ _ (λ kids. agree_skip (position t kids) _ _ (λ i.
        agree_bind (agree_while {I = λ (k : Turning). Steady G.nodes k.state} {test = turning_goes} (λ k h _. two_turned b (is_odd i) k h)
        (2 * G.nodes) (record { place = i; state = s₁ }) h₁) (λ k h₂.
        agree_of (rerooted b i v k.state (known l) h₂))))))
      where
        known : v < length s.forest.parents → v ≢ missing
        known l = omega (arith, h.ground.parents_length)

  groups_turned : (depth b v : ℕ) (s : State) → Steady G.nodes s
      → Agree (Steady G.nodes) (augment_group turns G depth b v s) (augment_group turns' G depth b v s)
  unfolding augment_group
  groups_turned zero b v s h = both_torn
  groups_turned (suc depth) b v s h = group_turned (λ c u s. augment_group turns G depth c u s) (λ c u s. augment_group turns' G depth c u s)
      (λ c u s h. groups_turned depth c u s h) b v s h

  top_turned : (b v : ℕ) (s : State) → Steady G.nodes s → Agree (Steady G.nodes) (augment_top turns G b v s) (augment_top turns' G b v s)
  unfolding augment_top
  top_turned b v s h = agree_only_if (is_group G.nodes b) (is_group G.nodes b) refl _ _ s (groups_turned G.nodes b v s h) h

  -- ---- the trail

  through1 : (v p : ℕ) (s : State) → Steady G.nodes s
      → Agree (λ (r : Reached). Steady G.nodes r.state) (through_label1 turns G v p s) (through_label1 turns' G v p s)
  unfolding through_label1
  through1 v p s h =
      agree_skip (at s.forest.tops v) _ _ (λ b. agree_skip (at s.labelling.labels b) _ _ (λ l. agree_skip (must (eqb l 1)) _ _ (λ u.
      agree_skip (at s.labelling.label_ends b) _ _ (λ e. agree_skip (base_mate s b) _ _ (λ m. agree_skip (must (eqb e m)) _ _ (λ u.
      agree_bind (top_turned b v s h) (λ s h. agree_bind (agree_of (mate_stored v p s h)) (λ s h. agree h))))))))

  through2 : (e : ℕ) (s : State) → Steady G.nodes s
      → Agree (λ (k : Trail). Steady G.nodes k.state) (through_label2 turns G e s) (through_label2 turns' G e s)
  unfolding through_label2
  through2 e s h =
      agree_skip (endpoint G e) _ _ (λ t. agree_skip (at s.forest.tops t) _ _ (λ b. agree_skip (at s.labelling.labels b) _ _
      (λ l. agree_skip (must (eqb l 2)) _ _ (λ u.
      agree_skip (at s.labelling.label_ends b) _ _ (λ f. agree_skip (present f) _ _ (λ f. agree_skip (endpoint G f) _ _
      (λ v. agree_skip (endpoint G (beside f)) _ _ (λ j.
      agree_skip (at s.forest.bases b) _ _ (λ base. agree_skip (must (eqb base t)) _ _ (λ u.
      agree_bind (top_turned b j s h) (λ s h. agree_bind (agree_of (mate_stored j f s h)) (λ s h. agree h))))))))))))

  moved : (k : Trail) → Steady G.nodes k.state → Agree (λ (k : Trail). Steady G.nodes k.state) (trail_move turns G k) (trail_move turns' G k)
  unfolding trail_move
  moved k h = agree_bind (through1 k.v k.p k.state h) (λ r h. agree_either (is_missing r.from) _ _ _ _ (λ t. agree h) (λ f. through2
      r.from r.state h))

  trail_matched : (v p : ℕ) (s : State) → Steady G.nodes s → Agree (Steady G.nodes) (match_trail turns G v p s) (match_trail turns' G v p s)
  unfolding match_trail
  trail_matched v p s h =
      agree_bind (agree_while {I = λ (k : Trail). Steady G.nodes k.state} {test = trail_goes} (λ k h _. moved k h) (2 * G.nodes)
      (record { v = v; p = p; over = false; state = s }) h) (λ k h. agree h)

  -- ---- the whole

  pub augmented : (e : ℕ) (s : State) → Steady G.nodes s
      → Agree (λ t. Firm G.nodes t.forest × MateHolds G t.pairing.mates) (augment_matching turns G e s) (augment_matching turns' G e s)
  unfolding augment_matching
  augmented e s h =
      agree_skip (at G.edges e) _ _ (λ x. agree_bind (trail_matched x.first (2 * e + 1) s h) (λ s h. agree_bind
      (trail_matched x.second (2 * e) s h) (λ s h.
      agree_of (holding (mates_pass G s.pairing.mates) _ (λ t. kept (h, (mates_decided G s.pairing.mates).sound t))))))
