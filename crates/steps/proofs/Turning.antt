-- A group that is re-rooted keeps the invariant: its ring is turned round, so its members are the same, and it has another base.
use mathlib.Core.Path.{◌≡◌, sym, ap, ◌∙◌, subst}
use mathlib.Core.Logic.{◌≢◌, ◌⊎◌, inl, inr, ⊎_elim}
use mathlib.Core.List.{List, []}
use Prim.Native.Nat.{ℕ, ◌*◌, ◌<◌, ◌≤◌}
use native.Mathlib.Omega.{arith}
use lib.Dec.{eqb, eqb→eq}
use lib.ListN.{length, get_or, set, length-set}
use lib.Seq.{get_or-set_same, get_or-set_other}
use Rattle.laws.specs.Times.{times}
use Rattle.laws.specs.Run.{at}
use Rattle.laws.proofs.Times.{same_or_not, less_or_not, times_here, times_turned, length_turned}
use Rattle.laws.proofs.Kept.{Kept, kept}
use Rattle.laws.proofs.Keeping.{skip, load, stored, holding}
use Rattle.matching.specs.Graph.{missing}
use Rattle.steps.specs.State.{Forest, State}
use Rattle.steps.specs.Stores.{with_children, with_ring_ends, with_bases}
use Rattle.steps.specs.Ring.{rotate}
use Rattle.steps.specs.Augment.{reroot}
use Rattle.steps.specs.Standing.{top_of, parent, base_of, children_of, IsGroup, InUse, Free, FirstFree}
use Rattle.steps.proofs.Ground.{Upmost, Used, Fit, Ground, Nothing, is_known}

-- ---- the forest

abbrev pub turned : (b i v : ℕ) → List (List ℕ) → Forest → Forest
turned b i v ends F =
    record {
      tops = F.tops;
      parents = F.parents;
      bases = set F.bases b v;
      children = set F.children b (rotate i (children_of F b));
      ring_ends = ends;
      free = F.free;
    }

module _ {n : ℕ} {O D : ℕ → Type 0} {F : Forest} (g : Ground n O D F) (b i v : ℕ) (ends : List (List ℕ))
    (group : IsGroup n b) (used : InUse F b) (known : v ≢ missing) where
  abbrev F' : Forest
  F' = turned b i v ends F

  base_there : (x : ℕ) → x ≢ b → base_of F' x ≡ base_of F x
  base_there x d = get_or-set_other F.bases b x v missing d

  in_use_now : (x : ℕ) → InUse F x → InUse F' x
  in_use_now x u e = ⊎_elim
      (λ q. known (sym (get_or-set_same F.bases b v missing (omega (arith, group.1, g.bases_length))) ∙ ap (base_of F') (sym q) ∙ e))
      (λ d. u (sym (base_there x d) ∙ e))
      (same_or_not x b)

  ring_here : children_of F' b ≡ rotate i (children_of F b)
  ring_here = get_or-set_same F.children b (rotate i (children_of F b)) [] (omega (arith, group.1, g.children_length))

  ring_there : (x : ℕ) → x ≢ b → children_of F' x ≡ children_of F x
  ring_there x d = get_or-set_other F.children b x (rotate i (children_of F b)) [] d

  same_members : (x y : ℕ) → times x (children_of F' y) ≡ times x (children_of F y)
  unfolding rotate
  same_members x y = ⊎_elim
      (λ e. ap (times x) (ap (children_of F') e ∙ ring_here) ∙ times_turned x i (children_of F b) ∙ ap (λ z. times x (children_of F z)) (sym e))
      (λ d. ap (times x) (ring_there y d))
      (same_or_not y b)

  same_length : (y : ℕ) → length (children_of F' y) ≡ length (children_of F y)
  unfolding rotate
  same_length y = ⊎_elim
      (λ e. ap {B = ℕ} length (ap (children_of F') e ∙ ring_here) ∙ length_turned i (children_of F b) ∙ ap (λ z. length (children_of F z)) (sym e))
      (λ d. ap {B = ℕ} length (ring_there y d))
      (same_or_not y b)

  upmost_now : (x : ℕ) → Upmost n F x → Upmost n F' x
  upmost_now x h = record { is_number = h.is_number; in_use = in_use_now x h.in_use; no_parent = h.no_parent }

  pub turned_ground : Ground n O D F'
  turned_ground = record {
    tops_length = g.tops_length;
    parents_length = g.parents_length;
    bases_length = length-set F.bases b v ∙ g.bases_length;
    children_length = length-set F.children b (rotate i (children_of F b)) ∙ g.children_length;
    node_base = λ x l. base_there x (omega (arith, group.0)) ∙ g.node_base x l;
    node_alone = λ x l. ring_there x (omega (arith, group.0)) ∙ g.node_alone x l;
    free_group = g.free_group;
    number = number_now;
    ring = ring_now;
    above = λ x m. let h = g.above x m in record {
      by_group = h.by_group;
      in_use = in_use_now (parent F x) h.in_use;
      listed = rw (same_members x
          (parent F x)) h.listed;
    };
    below = λ y c s h. g.below y c s (rw (same_members c y) at h);
    open_top = λ x o. ((g.open_top x o).0, upmost_now x (g.open_top x o).1);
    placed = λ x l. ⊎_elim (λ p. inl (record { upmost = upmost_now (top_of F x) p.upmost; lies = p.lies })) (λ p. inr p) (g.placed x l);
    pending_top = g.pending_top;
  }
    where
      number_now : (x : ℕ) → IsGroup n x → Used F' x ⊎ Free F' x
      number_now x k = ⊎_elim
          (λ (u : Used F x). inl (in_use_now x u.0, u.1))
          (λ (u : Free F x). let d : x ≢ b = λ e. used (ap (base_of F) (sym e) ∙ u.no_base) in
          inr (record { no_base = base_there x d ∙ u.no_base; once_free = u.once_free; no_children = ring_there x d ∙ u.no_children; no_parent = u.no_parent }))
          (g.number x k)

      was_used : (x : ℕ) → IsGroup n x → InUse F' x → InUse F x
      was_used x k u = ⊎_elim (λ e. subst (InUse F) (sym e) used) (λ d. rw (base_there x d) at u) (same_or_not x b)

      ring_now : (x : ℕ) → IsGroup n x → InUse F' x → Fit (children_of F' x)
      ring_now x k u = let h = g.ring x k (was_used x k u) in record {
        is_odd = rw (same_length x) h.is_odd;
        three_or_more = rw (same_length x) h.three_or_more;
        none_twice = λ c. rw (same_members c x) (h.none_twice c);
      }

-- ---- what holds of the forest while a matching is augmented

pub record Firm (n : ℕ) (F : Forest) : Type 0 where
  pub ground : Ground n Nothing Nothing F
  pub first : FirstFree n F

-- a number with children is a group in use
pub has_ring : {n : ℕ} {F : Forest} → Firm n F → (b : ℕ) → b < 2 * n → 0 < length (children_of F b) → IsGroup n b × InUse F b
has_ring {n} {F} h b l k = ⊎_elim
    (λ m. let no_way : ⊥ = omega (arith, ap {B = ℕ} length (h.ground.node_alone b m)) in absurd no_way)
    (λ m. ⊎_elim
    (λ (u : Used F b). ((m, l), u.0))
    (λ (u : Free F b). let no_way : ⊥ = omega (arith, ap {B = ℕ} length u.no_children) in absurd no_way)
    (h.ground.number b (m, l)))
    (less_or_not b n)

-- number n is free
pub first_unused : {n : ℕ} {F : Forest} → Firm n F → 1 ≤ n → Free F n
first_unused {n} {F} h l = ⊎_elim
    (λ (u : Used F n). let no_way : ⊥ = omega (arith, u.1, ap (times n) h.first.1, times_here n h.first.0) in absurd no_way)
    (λ u. u)
    (h.ground.number n (omega arith, omega arith))

-- and in no ring
pub never_child : {n : ℕ} {F : Forest} → 2 * n ≤ missing → Firm n F → (b c : ℕ) → b < 2 * n → 0 < times c (children_of F b) → c ≢ n
never_child {n} {F} fits h b c l k e =
    is_known fits h.ground b l (sym (h.ground.below b c (λ z. z) k) ∙ ap (parent F) e ∙ (first_unused h (omega arith)).no_parent)

-- ---- the routine

pub rerooted : {n : ℕ} (b i v : ℕ) (s : State) → v ≢ missing → Firm n s.forest → Kept (λ t. Firm n t.forest) (reroot b i v s)
unfolding reroot rotate
rerooted {n} b i v s known h = load s.forest.children b [] _ (λ l. skip (at s.forest.ring_ends b) _ (λ ends.
    stored s.forest.children b (rotate i kids) (λ l. with_children l s) _ (λ _. stored s.forest.ring_ends b (rotate i ends)
    (λ l. with_ring_ends l (with_children (set s.forest.children b (rotate i kids)) s)) _ (λ _.
    load (rotate i kids) 0 0 _ (λ k. skip (at s.forest.bases (get_or (rotate i kids) 0 0)) _ (λ base.
    stored s.forest.bases b base (λ l. with_bases l (with_ring_ends (set s.forest.ring_ends b (rotate i ends)) (with_children
    (set s.forest.children b (rotate i kids)) s))) _ (λ _.
    holding (eqb base v) _ (λ t. kept (now (set s.forest.ring_ends b (rotate i ends)) base (eqb→eq base v t) (omega
    (arith, l, h.ground.children_length)) (omega (arith, k, length_turned i kids)))))))))))
  where
    kids : List ℕ
    kids = children_of s.forest b

    now : (ends : List (List ℕ)) (base : ℕ) → base ≡ v → b < 2 * n → 0 < length kids → Firm n (turned b i base ends s.forest)
    now ends base e l k = let (group, used) = has_ring h b l k in
        record { ground = turned_ground h.ground b i base ends group used (rw e known); first = h.first }
