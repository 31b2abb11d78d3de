-- A child of an open group is freed: its parent is forgotten, and the nodes that lie in it get it as their outermost number, or it is
-- opened in its turn. The invariant is kept.
use mathlib.Core.Path.{◌≡◌, refl, sym, ap, ◌∙◌, subst}
use mathlib.Core.Bool.{Bool, true, false}
use mathlib.Core.Logic.{◌≢◌, ◌⊎◌, inl, inr, ⊎_elim}
use mathlib.Core.List.{List, [], ◌∷◌}
use Prim.Native.Nat.{ℕ, ◌*◌, ◌<◌, ◌≤◌}
use native.Mathlib.Omega.{arith}
use lib.Dec.{T, ltb, ltb→lt, lt→ltb}
use lib.ListN.{length, set, length-set}
use Rattle.laws.specs.Integers.{is_zero}
use Rattle.laws.specs.Times.{times}
use Rattle.laws.specs.Run.{Run, at}
use Rattle.laws.proofs.Times.{same_or_not, less_or_not, times_here}
use Rattle.laws.proofs.Kept.{Kept, kept, kept_map}
use Rattle.laws.proofs.Keeping.{store, Agree, agree_of, agree_map, agree_bind, agree_skip, agree_stored, agree_either}
use Rattle.matching.specs.Graph.{Graph, missing}
use Rattle.matching.specs.Certificate.{parent_of}
use Rattle.steps.specs.State.{Forest, State}
use Rattle.steps.specs.Stores.{with_parents, with_tops}
use Rattle.steps.specs.Expand.{bring_top, keep_child, free_group, free_child}
use Rattle.steps.specs.Listed as listed
use Rattle.steps.specs.Standing.{top_of, parent, children_of, IsGroup, Free, FirstFree}
use Rattle.steps.proofs.Climbing.{Within, parent_same, parent_other, freed_within, last_move}
use Rattle.steps.proofs.Frames.{Of}
use Rattle.steps.proofs.Ground.{Upmost, Placed, Pending, Used, Held, Ground, Or, held_number, held_used, is_known, node_childless}
use Rattle.steps.proofs.Nodes.{nodes_listed, Stamping, Stamped, stamp, stamp_all, stamp_end, child_shut}

-- ---- what is known before and after

-- each parent is as it was, or it was no open group and is forgotten
abbrev pub Frees : (ℕ → Type 0) → (ps qs : List ℕ) → Type 0
Frees O ps qs = (x : ℕ) → (parent_of qs x ≡ parent_of ps x) ⊎ ((parent_of qs x ≡ missing) × ¬ (O (parent_of ps x)))

-- the outermost group b is to be opened; the nodes that lie in it may have any entry
pub record Ready (n : ℕ) (O D : ℕ → Type 0) (b : ℕ) (ms : List ℕ) (F : Forest) (M : List ℕ) : Type 0 where
  pub ground : Ground n O (Or D b) F
  pub group : IsGroup n b
  pub upmost : Upmost n F b
  pub shut : ¬ (O b)
  pub first : FirstFree n F
  pub mates_same : M ≡ ms

-- it is opened, and its number free
pub record Opened (n : ℕ) (O D : ℕ → Type 0) (ps ms : List ℕ) (F : Forest) (M : List ℕ) : Type 0 where
  pub ground : Ground n O D F
  pub frees : Frees O ps F.parents
  pub first : FirstFree n F
  pub mates_same : M ≡ ms

-- one child c is freed, and perhaps others below it
pub record Freed (n : ℕ) (O D : ℕ → Type 0) (c : ℕ) (ps ms : List ℕ) (F : Forest) (M : List ℕ) : Type 0 where
  pub ground : Ground n O D F
  pub is_freed : parent F c ≡ missing
  pub frees : (x : ℕ) → x ≢ c → (parent F x ≡ parent_of ps x) ⊎ ((parent F x ≡ missing) × ¬ (O (parent_of ps x)))
  pub first : FirstFree n F
  pub mates_same : M ≡ ms

-- ---- the parent is forgotten

abbrev pub reparent : List ℕ → Forest → Forest
reparent l F =
    record {
      tops = F.tops;
      parents = l;
      bases = F.bases;
      children = F.children;
      ring_ends = F.ring_ends;
      free = F.free;
    }

-- c's parent forgotten
abbrev pub freed : ℕ → Forest → Forest
freed c F = reparent (set F.parents c missing) F

module _ {n : ℕ} {O D : ℕ → Type 0} {F : Forest} (fits : 2 * n ≤ missing) (g : Ground n O D F) (b c : ℕ) (open_b : O b) (child : parent F c ≡ b) where
  has_parent : parent F c ≢ missing
  has_parent e = is_known fits g b (g.open_top b open_b).0.1 (sym child ∙ e)

  in_range : c < length F.parents
  in_range = omega (arith, held_number fits g c has_parent, g.parents_length)

  pub freed_parent : parent (freed c F) c ≡ missing
  freed_parent = parent_same F.parents c missing in_range

  pub other_parent : (x : ℕ) → x ≢ c → parent (freed c F) x ≡ parent F x
  other_parent x d = parent_other F.parents c missing x d

  still_missing : (x : ℕ) → parent F x ≡ missing → parent (freed c F) x ≡ missing
  still_missing x e = ⊎_elim (λ q. ap (parent (freed c F)) q ∙ freed_parent) (λ d. other_parent x d ∙ e) (same_or_not x c)

  upmost_now : (x : ℕ) → Upmost n F x → Upmost n (freed c F) x
  upmost_now x h = record { is_number = h.is_number; in_use = h.in_use; no_parent = still_missing x h.no_parent }

  pub child_upmost : Upmost n (freed c F) c
  child_upmost = record { is_number = held_number fits g c has_parent; in_use = held_used fits g c has_parent; no_parent = freed_parent }

  pub child_not_open : ¬ (O c)
  child_not_open = child_shut fits g b c (g.open_top b open_b).0.1 child

  pub freed_ground : Ground n O (Or D c) (freed c F)
  freed_ground = record {
    tops_length = g.tops_length;
    parents_length = length-set F.parents c missing ∙ g.parents_length;
    bases_length = g.bases_length;
    children_length = g.children_length;
    node_base = g.node_base;
    node_alone = g.node_alone;
    free_group = g.free_group;
    number = number_now;
    ring = g.ring;
    above = above_now;
    below = below_now;
    open_top = λ x o. ((g.open_top x o).0, upmost_now x (g.open_top x o).1);
    placed = placed_now;
    pending_top = λ d o. ⊎_elim (λ o. still_missing d (g.pending_top d o)) (λ q. ap (parent (freed c F)) q ∙ freed_parent) o;
  }
    where
      number_now : (x : ℕ) → IsGroup n x → Used (freed c F) x ⊎ Free (freed c F) x
      number_now x k = ⊎_elim (λ h. inl h) (λ h. inr
          (record { no_base = h.no_base; once_free = h.once_free; no_children = h.no_children; no_parent = still_missing x h.no_parent })) (g.number x k)

      above_now : (x : ℕ) → parent (freed c F) x ≢ missing → Held n (freed c F) x
      above_now x m = ⊎_elim
          (λ e. absurd (m (ap (parent (freed c F)) e ∙ freed_parent)))
          (λ d. let h = g.above x (λ z. m (other_parent x d ∙ z)) in
          record { by_group = rw (other_parent x d) h.by_group; in_use = rw (other_parent x d) h.in_use; listed = rw (other_parent x d) h.listed })
          (same_or_not x c)

      below_now : (y x : ℕ) → ¬ (O y) → 0 < times x (children_of F y) → parent (freed c F) x ≡ y
      below_now y x shut k = ⊎_elim
          (λ e. absurd (shut (subst O (sym child ∙ ap (parent F) (sym e) ∙ g.below y x shut k) open_b)))
          (λ d. other_parent x d ∙ g.below y x shut k)
          (same_or_not x c)

      moved : (v x : ℕ) → Within F.parents v x → Within (freed c F).parents v x ⊎ Within (freed c F).parents v c
      moved v x (k, e) = freed_within F.parents c missing k v x e

      placed_now : (v : ℕ) → v < n → Placed n (freed c F) v ⊎ Pending (Or D c) (freed c F) v
      placed_now v l = ⊎_elim
          (λ p. ⊎_elim (λ w. inl (record { upmost = upmost_now (top_of F v) p.upmost; lies = w })) (λ w. inr (c, inr refl, w)) (moved v (top_of F v)
          p.lies))
          (λ p. ⊎_elim (λ w. inr (p.0, inl p.1, w)) (λ w. inr (c, inr refl, w)) (moved v p.0 p.2))
          (g.placed v l)

-- ---- the nodes that lie in it have it as their outermost

module _ {O D : ℕ → Type 0} (G : Graph) (fits : 2 * G.nodes ≤ missing) where
  -- what is stamped has its parents and its first free number
  stamped_opened : {ps fr ms : List ℕ} {F : Forest} {M : List ℕ} → (l : List ℕ) → fr ≡ G.nodes ∷ l → Stamped G.nodes O D ps fr ms F M
      → Opened G.nodes O D ps ms F M
  stamped_opened l e h = record {
    ground = h.ground;
    frees = λ x. inl (ap (λ ps. parent_of ps x) h.parents_same);
    first = (l, h.free_same ∙ e);
    mates_same = h.mates_same;
  }

  node_kept : (c : ℕ) (ms : List ℕ) (s : State) → c < G.nodes → Ground G.nodes O (Or D c) s.forest → Upmost G.nodes s.forest c
      → FirstFree G.nodes s.forest → s.pairing.mates ≡ ms
      → Of (Opened G.nodes O D s.forest.parents ms) (with_tops (set s.forest.tops c c) s)
  unfolding Rattle.matching.specs.Certificate.climb
  node_kept c ms s l g u f m = stamped_opened f.0 f.1 (stamp_end (stamp c [] (l, (0, refl)) (record {
    ground = g;
    upmost = u;
    parents_same = refl;
    free_same = refl;
    mates_same = m;
    to_come = λ x k w. inr (only x w);
  })))
    where
      only : (x : ℕ) → Within s.forest.parents x c → 0 < times x (c ∷ [])
      only x w = ⊎_elim
          (λ e. rw e (omega (arith, times_here c [])))
          (λ p. absurd (node_childless fits g c p.0 l p.2))
          (last_move s.forest.parents w.0 x c w.1)

  group_kept : (c : ℕ) (ms : List ℕ) (s : State) → ¬ (O c) → Ground G.nodes O (Or D c) s.forest → Upmost G.nodes s.forest c
      → FirstFree G.nodes s.forest → s.pairing.mates ≡ ms
      → Agree (Of (Opened G.nodes O D s.forest.parents ms)) (listed.keep_child G c s) (keep_child G c s)
  unfolding listed.keep_child keep_child bring_top
  group_kept c ms s shut g u f m = agree_bind (nodes_listed G s fits g c shut) (λ vs h. agree_of (
      kept_map (λ t k. stamped_opened f.0 f.1 (stamp_end k))
      (stamp_all {ps = s.forest.parents} {fr = s.forest.free} {ms = ms} {d = c} (bring_top c) bring vs s h.are_inside
      (record { ground = g; upmost = u; parents_same = refl; free_same = refl; mates_same = m; to_come = λ x l w. inr (h.are_all x l w) }))))
    where
      bring : (v : ℕ) (rest : List ℕ) (t : State) → (v < G.nodes) × Within s.forest.parents v c
          → Of (Stamping G.nodes O D s.forest.parents s.forest.free ms c (v ∷ rest)) t
          → Kept (Of (Stamping G.nodes O D s.forest.parents s.forest.free ms c rest)) (bring_top c v t)
      bring v rest t w k = store t.forest.tops v c _ (λ l. kept (stamp v rest w k))

  -- ---- the whole

  module _ (sub sub' : ℕ → State → Run State) (ms : List ℕ)
      (below : (c : ℕ) (s : State) → Of (Ready G.nodes O D c ms) s → Agree (Of (Opened G.nodes O D s.forest.parents ms)) (sub c s) (sub' c s)) where
    group_freed : (last : Bool) (c : ℕ) (s : State) → G.nodes ≤ c → ¬ (O c) → Ground G.nodes O (Or D c) s.forest
        → Upmost G.nodes s.forest c → FirstFree G.nodes s.forest → s.pairing.mates ≡ ms
        → Agree (Of (Opened G.nodes O D s.forest.parents ms)) (listed.free_group G sub last c s) (free_group G sub' last c s)
    unfolding listed.free_group free_group
    group_freed true c s l shut g u f m = agree_skip (at s.pairing.duals c) _ _ (λ d. agree_either (is_zero d) _ _ _ _
        (λ t. below c s (record { ground = g; group = (l, u.is_number); upmost = u; shut = shut; first = f; mates_same = m }))
        (λ t. group_kept c ms s shut g u f m))
    group_freed false c s l shut g u f m = group_kept c ms s shut g u f m

    pub child_freed : (last : Bool) (b c : ℕ) (s : State) → O b → parent s.forest c ≡ b → Ground G.nodes O D s.forest
        → FirstFree G.nodes s.forest → s.pairing.mates ≡ ms
        → Agree (Of (Freed G.nodes O D c s.forest.parents ms)) (listed.free_child G sub last c s) (free_child G sub' last c s)
    unfolding listed.free_child free_child
    child_freed last b c s o e g f m = agree_stored s.forest.parents c missing (λ l. with_parents l s) _ _ (λ l. agree_map now
        (agree_either (ltb c G.nodes) _ _ _ _
        (λ t. agree_of (store s.forest.tops c c _ (λ l. kept (node_kept c ms s' (ltb→lt c G.nodes t) (freed_ground fits g b c o e)
        (child_upmost fits g b c o e) f m))))
        (λ t. group_freed last c s' (group t) (child_not_open fits g b c o e) (freed_ground fits g b c o e) (child_upmost fits g b c o e) f m)))
      where
        s' : State
        s' = with_parents (set s.forest.parents c missing) s

        group : (T (ltb c G.nodes) → ⊥) → G.nodes ≤ c
        group f = ⊎_elim (λ l. absurd (f (lt→ltb c G.nodes l))) (λ l. l) (less_or_not c G.nodes)

        now : (t : State) → Of (Opened G.nodes O D s'.forest.parents ms) t → Of (Freed G.nodes O D c s.forest.parents ms) t
        now t h = record {
          ground = h.ground;
          is_freed = ⊎_elim (λ q. q ∙ freed_parent fits g b c o e) (λ q. q.0) (h.frees c);
          frees = λ x d. ⊎_elim (λ q. inl (q ∙ other_parent fits g b c o e x d)) (λ q. inr (q.0, rw (other_parent fits g b c o e x d) at q.1)) (h.frees x);
          first = h.first;
          mates_same = h.mates_same;
        }
