-- Each of the four kinds of step keeps what holds after a completed step; and two runs by tests that agree everywhere but at number n
-- take the same step (`Agree`, as in Augmenting), the one with the causes of FAULT that are listed alone (specs/Listed), the other with all
-- tests of the definition.
use Rattle.std.specs.Prelude.{if◌then◌else◌}
use mathlib.Core.Path.{◌≡◌, refl, ap, ◌∙◌}
use mathlib.Core.Bool.{Bool, true, false, not, ◌&&◌}
use mathlib.Core.Logic.{◌≢◌, inl, ⊎_elim}
use mathlib.Core.List.{List, [], ◌∷◌}
use Prim.Native.Nat.{ℕ, suc, ◌*◌, ◌/◌, ◌<◌, ◌≤◌}
use native.Mathlib.Omega.{arith}
use lib.Dec.{T, eqb, eqb→eq, T_not}
use lib.Ieee.Fits.{and_l, and_r, eq→eqb}
use lib.IntN.{pos}
use lib.Signed.{le_z}
use lib.ListN.{take}
use Rattle.laws.specs.Integers.{is_zero, half, is_even}
use Rattle.laws.specs.Run.{ok, must, at, pop}
use Rattle.laws.proofs.Kept.{Kept, kept, kept_bind, kept_map, kept_only_if, kept_for_range}
use Rattle.laws.proofs.Keeping.{skip, load, either_way, Agree, agree, both_torn, agree_of, agree_map, agree_bind, agree_skip, agree_either}
use Rattle.laws.proofs.Keeping.{agree_only_if, agree_where, agree_for_range}
use Rattle.matching.specs.Graph.{Graph, missing, is_missing, beside}
use Rattle.matching.specs.Certificate.{parent_of, MateHolds}
use Rattle.steps.specs.Ends.{endpoint, slack_of, far_ends}
use Rattle.steps.specs.State.{Forest, State, Phase, opening, searching, closing, ended}
use Rattle.steps.specs.Stores.{put_allowed}
use Rattle.steps.specs.Scan.{scan}
use Rattle.steps.specs.Expand.{expand_top}
use Rattle.steps.specs.Adjust.{Delta, no_delta, type1, type2, type3, type4, less_than, least_dual, delta1, offer2, delta2_at, offer3, delta3_at}
use Rattle.steps.specs.Adjust.{is_outermost, delta4_at, delta_last, choose_delta, follow, adjust_duals}
use Rattle.steps.specs.Steps.{reach, join, use_edge, pass_edge, visit, visit_all, is_closing, take_node, close_group, close_stage, take_or_adjust}
use Rattle.steps.specs.Steps.{step_at, step}
use Rattle.steps.specs.Listed as listed
use Rattle.steps.specs.Standing.{parent, base_of, IsGroup}
use Rattle.steps.proofs.Frames.{Of, allowed_keeps, label2_keeps, move_duals_keep, follow2_keeps, follow3_keeps, open_keeps, reach_keeps, keep_edge_keeps}
use Rattle.steps.proofs.Ground.{Upmost, Nothing, otherwise}
use Rattle.steps.proofs.Opening.{opened}
use Rattle.steps.proofs.Turning.{Firm}
use Rattle.steps.proofs.Augmenting.{augmented}
use Rattle.steps.proofs.Adding.{added}

-- what holds after a completed step, of the forest and the mates
abbrev pub Holding : Graph → Forest → List ℕ → Type 0
Holding G F M = Firm G.nodes F × MateHolds G M

-- an outermost group in use
pub record Openable (n : ℕ) (F : Forest) (b : ℕ) : Type 0 where
  pub group : IsGroup n b
  pub upmost : Upmost n F b

module _ (G : Graph) (fits : 2 * G.nodes ≤ missing) where
  -- ---- opening a group

  top_opened : (last : Bool) (b : ℕ) (s : State) → Openable G.nodes s.forest b → Of (Holding G) s
      → Agree (Of (Holding G)) (listed.expand_top G last b s) (expand_top G last b s)
  unfolding listed.expand_top expand_top
  top_opened last b s o (f, m) =
      agree_map (λ t h. (record { ground = h.ground; first = h.first }, rw h.mates_same m))
      (opened G fits G.nodes last {O = Nothing} {D = Nothing} s.pairing.mates b s
      (record {
        ground = otherwise (λ x o. o) (λ x o. absurd o) (λ v l p. ⊎_elim (λ p. inl p) (λ p. absurd p.1) p)
            (λ d q. ⊎_elim (λ q. absurd q) (λ e. ap (parent s.forest) e ∙ o.upmost.no_parent) q) f.ground;
        group = o.group;
        upmost = o.upmost;
        shut = λ z. z;
        first = f.first;
        mates_same = refl;
      }))

  tested : (s : State) (b : ℕ) → G.nodes ≤ b → Firm G.nodes s.forest → Kept (λ o. T o → Openable G.nodes s.forest b) (is_outermost s b)
  unfolding is_outermost parent_of
  tested s b l f = load s.forest.bases b missing _ (λ i. load s.forest.parents b missing _ (λ _. kept (λ t.
      let base = base_of s.forest b in
      let p = parent s.forest b in
      let k : b < 2 * G.nodes = omega (arith, f.ground.bases_length) in
      record {
        group = (l, k);
        upmost = record {
          is_number = k;
          in_use = λ e. T_not (is_missing base) (and_l (not (is_missing base)) (is_missing p) t) (eq→eqb e);
          no_parent = eqb→eq p missing (and_r (not (is_missing base)) (is_missing p) t);
        };
      })))

  -- ---- adjusting the duals

  -- a group that is to be opened is outermost and in use
  abbrev Found : State → Delta → Type 0
  Found s no_delta = Unit {0}
  Found s (type1 d) = Unit {0}
  Found s (type2 d e) = Unit {0}
  Found s (type3 d e) = Unit {0}
  Found s (type4 d b) = Openable G.nodes s.forest b

  picked : (s : State) (t : Bool) (x y : Delta) → (T t → Found s x) → Found s y → Kept (Found s) (ok (if t then x else y))
  picked s true x y h k = kept (h tt)
  picked s false x y h k = kept k

  module _ (s : State) where
    first_found : (flag : Bool) → Kept (Found s) (delta1 G flag s)
    unfolding delta1
    first_found flag = either_way flag _ _ (λ t. kept tt) (λ f. skip (least_dual (take G.nodes s.pairing.duals)) _ (λ d. kept tt))

    found2 : (v : ℕ) (best : Delta) → Found s best → Kept (Found s) (delta2_at G s v best)
    unfolding delta2_at offer2
    found2 v best h =
        skip (at s.forest.tops v) _ (λ t. skip (at s.labelling.labels t) _ (λ l. skip (at s.labelling.best v) _ (λ e.
        kept_only_if (eqb l 0 && not (is_missing e)) (offer2 G s e) best (λ t. skip (slack_of G s.pairing.duals e) _ (λ d. picked s (less_than d best)
        (type2 d e) best (λ t. tt) h)) h)))

    found3 : (b : ℕ) (best : Delta) → Found s best → Kept (Found s) (delta3_at G s b best)
    unfolding delta3_at offer3
    found3 b best h =
        skip (at s.forest.parents b) _ (λ p. skip (at s.labelling.labels b) _ (λ l. skip (at s.labelling.best b) _ (λ e.
        kept_only_if (is_missing p && eqb l 1 && not (is_missing e)) (offer3 G s e) best (λ t. skip (slack_of G s.pairing.duals e) _ (λ k.
        skip (must (is_even k)) _ (λ u. picked s (less_than (half k) best) (type3 (half k) e) best (λ t. tt) h))) h)))

    found4 : Firm G.nodes s.forest → (b : ℕ) (best : Delta) → (G.nodes ≤ b) × Found s best
        → Kept (λ d. (G.nodes ≤ suc b) × Found s d) (delta4_at s b best)
    unfolding delta4_at
    found4 f b best (i, h) =
        kept_bind (tested s b i f) (λ o k. skip (at s.labelling.labels b) _ (λ l. skip (at s.pairing.duals b) _ (λ d.
        kept_map (λ d h. (omega arith, h)) (picked s (o && eqb l 2 && less_than d best) (type4 d b) best (λ t. k
        (and_l o (eqb l 2) (and_l (o && eqb l 2) (less_than d best) t))) h))))

    last_found : (d : Delta) → Found s d → Kept (Found s) (delta_last G s d)
    unfolding delta_last
    last_found no_delta h = skip (least_dual (take G.nodes s.pairing.duals)) _ (λ d. kept tt)
    last_found (type1 d) h = kept h
    last_found (type2 d e) h = kept h
    last_found (type3 d e) h = kept h
    last_found (type4 d b) h = kept h

    chosen : (flag : Bool) → Firm G.nodes s.forest → Kept (Found s) (choose_delta G flag s)
    unfolding choose_delta
    chosen flag f =
        kept_bind (first_found flag) (λ d h.
        kept_bind (kept_for_range (λ i. Found s) (delta2_at G s) (λ i d h. found2 i d h) 0 G.nodes d h) (λ d h.
        kept_bind (kept_for_range (λ i. Found s) (delta3_at G s) (λ i d h. found3 i d h) 0 (2 * G.nodes) d h) (λ d h.
        kept_bind (kept_for_range (λ i d. (G.nodes ≤ i) × Found s d) (delta4_at s) (λ i d h. found4 f i d h) G.nodes G.nodes d (omega arith, h))
        (λ d h. last_found d h.1))))

    followed : (d : Delta) → Found s d → Of (Holding G) s → Agree (Of (Holding G)) (listed.follow G d s) (follow G d s)
    unfolding listed.follow follow
    followed no_delta k h = both_torn
    followed (type1 d) k h = agree_bind (agree_of (move_duals_keep (Holding G) G d s h)) (λ t h. agree h)
    followed (type2 d e) k h = agree_of (kept_bind (move_duals_keep (Holding G) G d s h) (λ t h. follow2_keeps (Holding G) G e t h))
    followed (type3 d e) k h = agree_of (kept_bind (move_duals_keep (Holding G) G d s h) (λ t h. follow3_keeps (Holding G) G e t h))
    followed (type4 d b) k h = agree_bind (agree_of (move_duals_keep (λ F M. Openable G.nodes F b × Holding G F M) G d s (k, h))) (λ t h.
        top_opened false b t h.0 h.1)

    adjusted : (flag : Bool) → Of (Holding G) s → Agree (Of (Holding G)) (listed.adjust_duals G flag s) (adjust_duals G flag s)
    unfolding listed.adjust_duals adjust_duals
    adjusted flag h = agree_bind (agree_of (chosen flag h.0)) (λ d k. followed d k h)

  -- ---- closing a stage

  group_closed : (b : ℕ) (s : State) → (G.nodes ≤ b) × Of (Holding G) s
      → Agree (λ t. (G.nodes ≤ suc b) × Of (Holding G) t) (listed.close_group G b s) (close_group G b s)
  unfolding listed.close_group close_group
  group_closed b s (i, h) =
      agree_bind (agree_of (tested s b i h.0)) (λ o k. agree_skip (at s.labelling.labels b) _ _ (λ l. agree_skip (at s.pairing.duals b) _ _ (λ d.
      agree_map (λ t h. (omega arith, h)) (agree_where {P = Of (Holding G)} (o && eqb l 1 && is_zero d) _ _ s (λ t. top_opened true b s
      (k (and_l o (eqb l 1) (and_l (o && eqb l 1) (is_zero d) t))) h) h))))

  closed : (s : State) → Of (Holding G) s → Agree (Of (Holding G)) (listed.close_stage G s) (close_stage G s)
  unfolding listed.close_stage close_stage
  closed s h =
      agree_bind (agree_for_range (λ i t. (G.nodes ≤ i) × Of (Holding G) t) (listed.close_group G) (close_group G) (λ i t h. group_closed i t h)
      G.nodes G.nodes s (omega arith, h)) (λ t h. agree h.1)

  -- ---- taking a node, and the next step

  module _ (turns turns' : (n c : ℕ) → Bool) (same : (c : ℕ) → c ≢ G.nodes → turns G.nodes c ≡ turns' G.nodes c) where
    joined : (v w e : ℕ) (s : State) → Of (Holding G) s → Agree (Of (Holding G)) (listed.join turns G v w e s) (join turns' G v w e s)
    unfolding listed.join join
    joined v w e s h = agree_skip (scan G v w s) _ _ (λ base. agree_either (is_missing base) _ _ _ _
        (λ t. agree_bind (augmented G fits turns turns' same e s h.0) (λ s h. agree h))
        (λ f. added G base e s fits (λ q. f (eq→eqb q)) h.0 h.1))

    edge_used : (v w p l lw : ℕ) (s : State) → Of (Holding G) s
        → Agree (Of (Holding G)) (listed.use_edge turns G v w p l lw s) (use_edge turns' G v w p l lw s)
    unfolding listed.use_edge use_edge
    edge_used v w p l lw s h = agree_either (eqb l 0) _ _ _ _
        (λ t. agree_of (label2_keeps (Holding G) G w (beside p) s h))
        (λ f. agree_either (eqb l 1) _ _ _ _ (λ t. joined v w (p / 2) s h) (λ f. agree_of (kept_only_if (eqb lw 0) (reach w p) s
        (λ t. reach_keeps (Holding G) w p s h) h)))

    edge_passed : (v w p : ℕ) (s : State) → Of (Holding G) s → Agree (Of (Holding G)) (listed.pass_edge turns G v w p s) (pass_edge turns' G v w p s)
    unfolding listed.pass_edge pass_edge
    edge_passed v w p s h =
        agree_skip (at s.labelling.allowed (p / 2)) _ _ (λ a. agree_skip (if a then ok (pos 0) else slack_of G s.pairing.duals (p / 2)) _ _ (λ k.
        agree_bind (agree_of (kept_only_if {P = Of (Holding G)} (not a && le_z k (pos 0)) (put_allowed (p / 2) true) s (λ t. allowed_keeps (Holding G)
        (p / 2) true s h) h)) (λ s h.
        agree_skip (at s.labelling.allowed (p / 2)) _ _ (λ now. agree_skip (at s.forest.tops w) _ _ (λ t. agree_skip
        (at s.labelling.labels t) _ _ (λ l. agree_skip (at s.labelling.labels w) _ _ (λ lw.
        agree_either now _ _ _ _ (λ t. edge_used v w p l lw s h) (λ f. agree_of (keep_edge_keeps (Holding G) G v w (p / 2) l lw k s h)))))))))

    visited : (v p : ℕ) (s : State) → Of (Holding G) s → Agree (Of (Holding G)) (listed.visit turns G v p s) (visit turns' G v p s)
    unfolding listed.visit visit
    visited v p s h =
        agree_skip (endpoint G p) _ _ (λ w. agree_skip (at s.forest.tops v) _ _ (λ bv. agree_skip (at s.forest.tops w) _ _ (λ bw.
        agree_only_if (not (eqb bv bw)) (not (eqb bv bw)) refl _ _ s (edge_passed v w p s h) h)))

    all_visited : (v : ℕ) (ps : List ℕ) (s : State) → Of (Holding G) s
        → Agree (Of (Holding G)) (listed.visit_all turns G v ps s) (visit_all turns' G v ps s)
    unfolding listed.visit_all visit_all
    all_visited v [] s h = agree h
    all_visited v (p ∷ ps) s h = agree_bind (visited v p s h) (λ s h. agree_either (is_closing s.progress.phase) _ _ _ _ (λ t. agree h) (λ f.
        all_visited v ps s h))

    node_taken : (s : State) → Of (Holding G) s → Agree (Of (Holding G)) (listed.take_node turns G s) (take_node turns' G s)
    unfolding listed.take_node take_node
    node_taken s h =
        agree_skip (pop s.labelling.queue) _ _ (λ q. agree_skip (at s.forest.tops q.last) _ _ (λ t. agree_skip
        (at s.labelling.labels t) _ _ (λ l. agree_skip (must (eqb l 1)) _ _ (λ u.
        all_visited q.last (far_ends G q.last) _ h))))

    took_or_adjusted : (flag : Bool) (queue : List ℕ) (s : State) → Of (Holding G) s
        → Agree (Of (Holding G)) (listed.take_or_adjust turns G flag queue s) (take_or_adjust turns' G flag queue s)
    unfolding listed.take_or_adjust take_or_adjust
    took_or_adjusted flag [] s h = adjusted s flag h
    took_or_adjusted flag (v ∷ vs) s h = node_taken s h

    stepped_at : (flag : Bool) (p : Phase) (s : State) → Of (Holding G) s
        → Agree (Of (Holding G)) (listed.step_at turns G flag p s) (step_at turns' G flag p s)
    unfolding listed.step_at step_at
    stepped_at flag opening s h = agree_of (open_keeps (Holding G) G s h)
    stepped_at flag searching s h = took_or_adjusted flag s.labelling.queue s h
    stepped_at flag closing s h = closed s h
    stepped_at flag ended s h = agree h

    pub stepped : (flag : Bool) (s : State) → Of (Holding G) s → Agree (Of (Holding G)) (listed.step turns G flag s) (step turns' G flag s)
    unfolding listed.step step
    stepped flag s h = stepped_at flag s.progress.phase s h
