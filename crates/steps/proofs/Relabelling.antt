-- The children of an opened group get labels anew (`relabel_ring`): the forest and the mates stay as they were, and the limit on the leaf
-- lists of the children is never met, where they are lists that fit (`short`).
use mathlib.Core.Path.{◌≡◌, subst}
use mathlib.Core.Bool.{Bool, not}
use mathlib.Core.List.{List, []}
use Prim.Native.Nat.{ℕ, ◌*◌, ◌<◌}
use lib.Dec.{eqb}
use lib.ListN.{length, get_or}
use Rattle.laws.specs.Times.{times}
use Rattle.laws.specs.Run.{at, position}
use Rattle.laws.proofs.Times.{times_at}
use Rattle.laws.proofs.Kept.{kept_only_if, kept_while}
use Rattle.laws.proofs.Keeping.{Agree, agree, agree_of, agree_bind, agree_skip, agree_skip_same, agree_load, agree_where, agree_while}
use Rattle.matching.specs.Graph.{Graph, is_odd, beside}
use Rattle.steps.specs.Ends.{present, endpoint}
use Rattle.steps.specs.State.{Forest, State}
use Rattle.steps.specs.Leaves.{leaves_of}
use Rattle.steps.specs.Ring.{around}
use Rattle.steps.specs.Expand.{Relabel, Onward, onward_goes, first_labelled, relabel_from, relabel_reached, onward_move, relabel_ring}
use Rattle.steps.specs.Listed as listed
use Rattle.steps.specs.Standing.{children_of}
use Rattle.steps.proofs.Frames.{Of, relabel_move_keeps, relabel_base_keeps, relabel_from_keeps}

-- this forest and these mates
abbrev pub Same : Forest → List ℕ → Forest → List ℕ → Type 0
Same F ms F' M = (F' ≡ F) × (M ≡ ms)

module _ (G : Graph) (F : Forest) (ms : List ℕ) (b : ℕ)
    (short : (c : ℕ) (s : State) → 0 < times c (children_of F b) → s.forest ≡ F → listed.leaves_of G s c ≡ leaves_of G s c) where
  abbrev As : State → Type 0
  As = Of (Same F ms)

  reached : (c : ℕ) (s : State) → 0 < times c (children_of F b) → As s → Agree As (listed.relabel_reached G c s) (relabel_reached G c s)
  unfolding listed.relabel_reached relabel_reached
  reached c s k h =
      agree_skip_same (short c s k h.0) _ _ (λ vs. agree_skip (first_labelled s 0 vs) _ _ (λ v. agree_skip (at s.labelling.labels v) _ _ (λ l.
      agree_of (kept_only_if {P = As} (not (eqb l 0)) (relabel_from G c v) s (λ t. relabel_from_keeps (Same F ms) G c v s h) h))))

  onward_moved : (forward : Bool) (k : Onward) → As k.state
      → Agree (λ (k : Onward). As k.state) (listed.onward_move G b forward k) (onward_move G b forward k)
  unfolding listed.onward_move onward_move
  onward_moved forward k h =
      agree_load k.state.forest.children b [] _ _ (λ i. agree_load (kids k) k.place 0 _ _ (λ j. agree_skip
      (at k.state.labelling.labels (get_or (kids k) k.place 0)) _ _ (λ l.
      agree_bind (agree_where {P = As} (not (eqb l 1)) _ _ k.state (λ t. reached (get_or (kids k) k.place 0) k.state (child j) h) h) (λ s h. agree h))))
    where
      kids : Onward → List ℕ
      kids k = children_of k.state.forest b

      child : k.place < length (kids k) → 0 < times (get_or (kids k) k.place 0) (children_of F b)
      child j = subst (λ (H : Forest). 0 < times (get_or (kids k) k.place 0) (children_of H b)) h.0 (times_at (kids k) k.place 0 j)

  pub relabelled : (s : State) → As s → Agree As (listed.relabel_ring G b s) (relabel_ring G b s)
  unfolding listed.relabel_ring relabel_ring
  relabelled s h =
      agree_skip (at s.labelling.label_ends b) _ _ (λ e. agree_skip (present e) _ _ (λ e. agree_skip (endpoint G (beside e)) _ _ (λ v.
      agree_skip (at s.forest.tops v) _ _ (λ entry. agree_skip (at s.forest.children b) _ _ (λ kids. agree_skip (position entry kids) _ _ (λ i.
      agree_bind (agree_of (kept_while {I = λ (k : Relabel). As k.state} (λ k h t. relabel_move_keeps (Same F ms) G b (is_odd i) k h) (2 * G.nodes)
      (record { place = i; p = e; state = s }) h)) (λ k h.
      agree_skip (at kids 0) _ _ (λ base. agree_bind (agree_of (relabel_base_keeps (Same F ms) G base k.p k.state h.0)) (λ s h.
      agree_bind (agree_while {I = λ (k : Onward). As k.state} {test = onward_goes b entry} (λ k h t. onward_moved (is_odd i) k h)
      (2 * G.nodes) (record { place = around (is_odd i) (length kids) 0; state = s }) h) (λ o h.
      agree h))))))))))
