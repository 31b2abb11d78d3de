-- A group is opened (`expand_group`): its children are freed one by one, then its number goes to the free ones. The invariant is kept, and
-- without the limits on leaf lists and on the free numbers it is the same.
use mathlib.Core.Path.{◌≡◌, refl, sym, ap, ◌∙◌, subst}
use mathlib.Core.Bool.{Bool, true, false, not, ◌&&◌}
use mathlib.Core.Logic.{◌≢◌, ◌⊎◌, inl, inr, ⊎_elim}
use mathlib.Core.List.{List, [], ◌∷◌, ◌++◌}
use Prim.Native.Nat.{ℕ, zero, suc, ◌*◌, ◌<◌, ◌≤◌}
use native.Mathlib.Omega.{arith}
use lib.Dec.{T, eqb, ltb}
use lib.Ieee.Fits.{and_l}
use lib.ListN.{get_or, set, length-set, length-append}
use lib.Seq.{get_or-set_same, get_or-set_other}
use Rattle.laws.specs.Times.{times}
use Rattle.laws.specs.Run.{Run, ok, ◌>>=◌, for_each, at, push}
use Rattle.laws.proofs.Times.{same_or_not, bit_same, bit_other, times_nil, times_cons, times_here, times_later, times_snoc}
use Rattle.laws.proofs.Kept.{Kept, kept, kept_map, kept_for_each}
use Rattle.laws.proofs.Keeping.{skip, store, stored, either_way, kept_known, pushed, Agree, agree, both_torn, agree_of, agree_at, agree_map}
use Rattle.laws.proofs.Keeping.{agree_also, agree_bind, agree_skip, agree_load, agree_stored, agree_where}
use Rattle.matching.specs.Graph.{Graph, missing}
use Rattle.matching.specs.Certificate.{parent_of}
use Rattle.steps.specs.State.{Forest, State}
use Rattle.steps.specs.Stores.{with_parents, with_free, with_children, with_ring_ends, with_bases}
use Rattle.steps.specs.Leaves.{leaves_of}
use Rattle.steps.specs.Expand.{bring_top, free_child, retire, expand_group}
use Rattle.steps.specs.Listed as listed
use Rattle.steps.specs.Standing.{top_of, parent, base_of, children_of, IsGroup, Free, FirstFree}
use Rattle.steps.proofs.Climbing.{Within, last_move}
use Rattle.steps.proofs.Frames.{Of, label_keeps, end_keeps, best_keeps}
use Rattle.steps.proofs.Ground.{Upmost, Placed, Pending, Used, Ground, Or, otherwise, is_known, few_free}
use Rattle.steps.proofs.Nodes.{list_fits}
use Rattle.steps.proofs.Freeing.{Frees, Ready, Opened, Freed, child_freed}
use Rattle.steps.proofs.Relabelling.{relabelled}

-- ---- the emptied group's number is freed

abbrev pub emptied : (b : ℕ) → List (List ℕ) → Forest → Forest
emptied b ends F =
    record {
      tops = F.tops;
      parents = F.parents;
      bases = set F.bases b missing;
      children = set F.children b [];
      ring_ends = ends;
      free = F.free ++ (b ∷ []);
    }

module _ {n : ℕ} {O D : ℕ → Type 0} {F : Forest} (fits : 2 * n ≤ missing) (b : ℕ) (ends : List (List ℕ)) (shut : ¬ (O b))
    (g : Ground n (Or O b) (Or D b) F) (none : (x : ℕ) → parent F x ≢ b) where
  abbrev F' : Forest
  F' = emptied b ends F

  group : IsGroup n b
  group = (g.open_top b (inr refl)).0

  base_here : base_of F' b ≡ missing
  base_here = get_or-set_same F.bases b missing missing (omega (arith, group.1, g.bases_length))

  base_there : (x : ℕ) → x ≢ b → base_of F' x ≡ base_of F x
  base_there x d = get_or-set_other F.bases b x missing missing d

  ring_here : children_of F' b ≡ []
  ring_here = get_or-set_same F.children b [] [] (omega (arith, group.1, g.children_length))

  ring_there : (x : ℕ) → x ≢ b → children_of F' x ≡ children_of F x
  ring_there x d = get_or-set_other F.children b x [] [] d

  -- no node lies in b any more
  nobody : (v : ℕ) → v < n → ¬ (Within F.parents v b)
  nobody v l (k, e) = ⊎_elim (λ (q : v ≡ b). let no_way : ⊥ = omega (arith, group.0) in no_way) (λ m. none m.0 m.2) (last_move F.parents k v b e)

  upmost_now : (x : ℕ) → x ≢ b → Upmost n F x → Upmost n F' x
  upmost_now x d h = record { is_number = h.is_number; in_use = rw (base_there x d) h.in_use; no_parent = h.no_parent }

  pub emptied_ground : Ground n O D F'
  emptied_ground = record {
    tops_length = g.tops_length;
    parents_length = g.parents_length;
    bases_length = length-set F.bases b missing ∙ g.bases_length;
    children_length = length-set F.children b [] ∙ g.children_length;
    node_base = λ v l. base_there v (omega (arith, group.0)) ∙ g.node_base v l;
    node_alone = λ v l. ring_there v (omega (arith, group.0)) ∙ g.node_alone v l;
    free_group = free_now;
    number = number_now;
    ring = λ x k u. ⊎_elim (λ e. absurd (u (ap (base_of F') e ∙ base_here))) (λ d. rw (ring_there x d) (g.ring x k (rw (base_there x d) at u)))
        (same_or_not x b);
    above = λ x m. let h = g.above x m in record {
      by_group = h.by_group;
      in_use = rw (base_there (parent F x) (none x)) h.in_use;
      listed = rw
          (ring_there (parent F x) (none x)) h.listed;
    };
    below = below_now;
    open_top = λ x o. ((g.open_top x (inl o)).0, upmost_now x (λ e. shut (subst O e o)) (g.open_top x (inl o)).1);
    placed = placed_now;
    pending_top = λ d o. g.pending_top d (inl o);
  }
    where
      free_now : (x : ℕ) → 0 < times x (F.free ++ (b ∷ [])) → IsGroup n x
      free_now x h = ⊎_elim (λ e. rw (← e) group) (λ d. g.free_group x (omega (arith, times_snoc x b F.free, bit_other b x d))) (same_or_not b x)

      was_used : times b F.free ≡ 0
      was_used = ⊎_elim (λ u. u.1) (λ u. absurd ((g.open_top b (inr refl)).1.in_use u.no_base)) (g.number b group)

      number_now : (x : ℕ) → IsGroup n x → Used F' x ⊎ Free F' x
      number_now x k = ⊎_elim
          (λ e. inr (record {
            no_base = ap (base_of F') e ∙ base_here;
            once_free = omega (arith, ap (λ z. times z F.free) e, was_used, times_snoc x b F.free, bit_same b x (sym e));
            no_children = ap (children_of F') e ∙ ring_here;
            no_parent = ap (parent F) e ∙ (g.open_top b (inr refl)).1.no_parent;
          }))
          (λ d. let same : times x (F.free ++ (b ∷ [])) ≡ times x F.free = omega (arith, times_snoc x b F.free, bit_other b x (λ z. d (sym z))) in
          ⊎_elim
          (λ (u : Used F x). inl (rw (base_there x d) u.0, same ∙ u.1))
          (λ (u : Free F x). inr
          (record {
            no_base = base_there x d ∙ u.no_base;
            once_free = same ∙ u.once_free;
            no_children = ring_there x d ∙ u.no_children;
            no_parent = u.no_parent;
          }))
          (g.number x k))
          (same_or_not x b)

      below_now : (y c : ℕ) → ¬ (O y) → 0 < times c (children_of F' y) → parent F c ≡ y
      below_now y c s h = ⊎_elim
          (λ e. let no_way : ⊥ = omega (arith, ap (times c) (ap (children_of F') e ∙ ring_here), times_nil c) in absurd no_way)
          (λ d. g.below y c (λ o. ⊎_elim s d o) (rw (ring_there y d) at h))
          (same_or_not y b)

      placed_now : (v : ℕ) → v < n → Placed n F' v ⊎ Pending D F' v
      placed_now v l = ⊎_elim
          (λ p. inl (record { upmost = upmost_now (top_of F v) (λ e. nobody v l (subst (Within F.parents v) e p.lies)) p.upmost; lies = p.lies }))
          (λ p. ⊎_elim (λ o. inr (p.0, o, p.2)) (λ e. absurd (nobody v l (subst (Within F.parents v) e p.2))) p.1)
          (g.placed v l)

-- ---- while the children are freed

-- `rest` of b's children are still to be freed
pub record Emptying (n : ℕ) (O D : ℕ → Type 0) (b : ℕ) (ps ms rest : List ℕ) (F : Forest) (M : List ℕ) : Type 0 where
  pub ground : Ground n (Or O b) (Or D b) F
  pub still_there : (x : ℕ) → 0 < times x rest → parent F x ≡ b
  pub no_others : (x : ℕ) → parent F x ≡ b → 0 < times x rest
  pub none_twice : (x : ℕ) → times x rest ≤ 1
  pub frees : Frees O ps F.parents
  pub first : FirstFree n F
  pub mates_same : M ≡ ms

module _ {n : ℕ} {O D : ℕ → Type 0} (fits : 2 * n ≤ missing) (b : ℕ) (shut : ¬ (O b)) {ps ms : List ℕ} where
  -- all of them are
  begin : {F : Forest} {M : List ℕ} → Ready n O D b ms F M → ps ≡ F.parents → Emptying n O D b ps ms (children_of F b) F M
  begin {F} h e = record {
    ground = otherwise (λ x o. inl o) (λ x o. ⊎_elim (λ o. h.ground.open_top x o) (λ q. rw q (h.group, h.upmost)) o) (λ v l p. p) h.ground.pending_top h.ground;
    still_there = λ x k. h.ground.below b x shut k;
    no_others = λ x q. rw q at (h.ground.above x (λ z. is_known fits h.ground b h.group.1 (sym q ∙ z))).listed;
    none_twice = (h.ground.ring b h.group h.upmost.in_use).none_twice;
    frees = λ x. inl (ap (λ ps. parent_of ps x) (sym e));
    first = h.first;
    mates_same = h.mates_same;
  }

  -- one more is
  onward : {F F₁ : Forest} {M M₁ : List ℕ} (c : ℕ) (rest : List ℕ) → Emptying n O D b ps ms (c ∷ rest) F M
      → Freed n (Or O b) (Or D b) c F.parents ms F₁ M₁ → Emptying n O D b ps ms rest F₁ M₁
  onward {F} {F₁} c rest h k = record {
    ground = k.ground;
    still_there = stay;
    no_others = others;
    none_twice = λ x. omega (arith, h.none_twice x, times_cons x c rest);
    frees = frees_now;
    first = k.first;
    mates_same = k.mates_same;
  }
    where
      known : b ≢ missing
      known = is_known fits h.ground b (h.ground.open_top b (inr refl)).0.1

      was : parent F c ≡ b
      was = h.still_there c (omega (arith, times_here c rest))

      stay : (x : ℕ) → 0 < times x rest → parent F₁ x ≡ b
      stay x l =
          let before : parent F x ≡ b = h.still_there x (omega (arith, times_cons x c rest)) in
          ⊎_elim
          (λ q. q ∙ before)
          (λ q. absurd (q.1 (inr before)))
          (k.frees x (λ e. let no_way : ⊥ = omega (arith, h.none_twice c, times_here c rest, ap (λ z. times z rest) e) in no_way))

      others : (x : ℕ) → parent F₁ x ≡ b → 0 < times x rest
      others x e = ⊎_elim
          (λ q. absurd (known (sym e ∙ ap (parent F₁) q ∙ k.is_freed)))
          (λ d. ⊎_elim
          (λ q. omega (arith, h.no_others x (sym q ∙ e), times_later x c rest (λ z. d (sym z))))
          (λ q. absurd (known (sym e ∙ q.0)))
          (k.frees x d))
          (same_or_not x c)

      frees_now : Frees O ps F₁.parents
      frees_now x = ⊎_elim
          (λ q. inr (
            ap (parent F₁) q ∙ k.is_freed,
            λ o. ⊎_elim (λ r. shut (subst O (sym r ∙ ap (parent F) q ∙ was) o)) (λ r. known
                (sym was ∙ ap (parent F) (sym q) ∙ r.0)) (h.frees x),
          ))
          (λ d. ⊎_elim
          (λ q. ⊎_elim (λ r. inl (q ∙ r)) (λ r. inr (q ∙ r.0, r.1)) (h.frees x))
          (λ q. ⊎_elim (λ r. inr (q.0, λ o. q.1 (inl (subst O (sym r) o)))) (λ r. inr (q.0, r.1)) (h.frees x))
          (k.frees x d))
          (same_or_not x c)

-- what is so once the number goes to the free ones
record Leaving (n : ℕ) (O D : ℕ → Type 0) (b : ℕ) (ps ms : List ℕ) (F : Forest) (M : List ℕ) : Type 0 where
  ground : Ground n O D
      (record { tops = F.tops; parents = F.parents; bases = F.bases; children = F.children; ring_ends = F.ring_ends; free = F.free ++ (b ∷ []) })
  frees : Frees O ps F.parents
  first : FirstFree n F
  mates_same : M ≡ ms

-- ---- the whole

module _ (G : Graph) (fits : 2 * G.nodes ≤ missing) where
  module _ {O D : ℕ → Type 0} (ps ms : List ℕ) (b : ℕ) (shut : ¬ (O b)) where
    all_freed : (f f' : ℕ → State → Run State)
        → ((c : ℕ) (s : State) → parent s.forest c ≡ b → Ground G.nodes (Or O b) (Or D b) s.forest → FirstFree G.nodes s.forest
        → s.pairing.mates ≡ ms → Agree (Of (Freed G.nodes (Or O b) (Or D b) c s.forest.parents ms)) (f c s) (f' c s))
        → (kids : List ℕ) (s : State) → Of (Emptying G.nodes O D b ps ms kids) s
        → Agree (Of (Emptying G.nodes O D b ps ms [])) (for_each f kids s) (for_each f' kids s)
    all_freed f f' step [] s h = agree h
    all_freed f f' step (c ∷ kids) s h =
        agree_bind (step c s (h.still_there c (omega (arith, times_here c kids))) h.ground h.first h.mates_same) (λ t k.
        all_freed f f' step kids t (onward fits b shut c kids h k))

    -- the free numbers are n at most, b among them
    retired : (s : State) → Of (Emptying G.nodes O D b ps ms []) s → Agree (Of (Opened G.nodes O D ps ms)) (listed.retire b s) (retire G b s)
    unfolding listed.retire retire
    retired s h =
        agree_bind (agree_of (label_keeps (Emptying G.nodes O D b ps ms []) b missing s h)) (λ s h. agree_bind
        (agree_of (end_keeps (Emptying G.nodes O D b ps ms []) b missing s h)) (λ s h.
        agree_stored s.forest.children b [] (λ l. with_children l s) _ _ (λ i. agree_stored s.forest.ring_ends b [] (λ l. with_ring_ends l
        (with_children (set s.forest.children b []) s)) _ _ (λ i.
        agree_stored s.forest.bases b missing (λ l. with_bases l (with_ring_ends (set s.forest.ring_ends b []) (with_children
        (set s.forest.children b []) s))) _ _ (λ i.
        agree_bind (agree_of (best_keeps (Leaving G.nodes O D b ps ms) b missing _ (leaving s h))) (λ s h. number_freed s h))))))
      where
        leaving : (s : State) → Of (Emptying G.nodes O D b ps ms []) s
            → Of (Leaving G.nodes O D b ps ms)
            (with_bases (set s.forest.bases b missing) (with_ring_ends (set s.forest.ring_ends b []) (with_children (set s.forest.children b []) s)))
        leaving s h = record {
          ground = emptied_ground fits b (set s.forest.ring_ends b []) shut h.ground (λ x e. let no_way : ⊥ = omega
              (arith, h.no_others x e, times_nil x) in no_way);
          frees = h.frees;
          first = h.first;
          mates_same = h.mates_same;
        }

        number_freed : (s : State) → Of (Leaving G.nodes O D b ps ms) s
            → Agree (Of (Opened G.nodes O D ps ms)) (ok (with_free (s.forest.free ++ (b ∷ [])) s)) (push G.nodes b s.forest.free >>= λ l. ok (with_free l s))
        number_freed s h =
            agree_at (ap (λ r. r >>= λ l. ok (with_free l s)) (sym (pushed G.nodes b s.forest.free (omega
            (arith, few_free fits h.ground, length-append s.forest.free (b ∷ []))))))
            (kept (record {
              ground = h.ground;
              frees = h.frees;
              first = (h.first.0 ++ (b ∷ []), ap (λ l. l ++ (b ∷ [])) h.first.1);
              mates_same = h.mates_same;
            }))

  -- within a stage no child is opened in its turn, and the rings stay as they are
  rings_stay : (sub : ℕ → State → Run State) (last : Bool) (kids : List ℕ) (s : State)
      → Kept (λ t. T (not last) → t.forest.children ≡ s.forest.children) (for_each (listed.free_child G sub last) kids s)
  unfolding listed.free_child listed.free_group listed.keep_child bring_top
  rings_stay sub true kids s = kept_map (λ t u v. absurd v) (kept_known {P = Unit {0}} _ tt)
  rings_stay sub false kids s = kept_map (λ t h u. h) (kept_for_each {I = λ t. t.forest.children ≡ s.forest.children} child kids refl)
    where
      child : (c : ℕ) (t : State) → t.forest.children ≡ s.forest.children
          → Kept (λ t. t.forest.children ≡ s.forest.children) (listed.free_child G sub false c t)
      child c t h = stored t.forest.parents c missing (λ l. with_parents l t) _ (λ l. either_way (ltb c G.nodes) _ _
          (λ u. store t.forest.tops c c _ (λ l. kept h))
          (λ u. skip (listed.leaves_of G (with_parents (set t.forest.parents c missing) t) c) _ (λ vs.
          kept_for_each {I = λ t. t.forest.children ≡ s.forest.children} (λ v t h. store t.forest.tops v c _ (λ l. kept h)) vs h)))

  -- the children of b are not open
  kids_shut : {O D : ℕ → Type 0} {ms : List ℕ} (b : ℕ) (s : State) → Of (Ready G.nodes O D b ms) s → (c : ℕ) → 0 < times c (children_of s.forest b)
      → ¬ (Or O b c)
  kids_shut {O} b s h c k o = is_known fits h.ground b h.group.1 (sym (h.ground.below b c h.shut k) ∙ top o)
    where
      top : Or O b c → parent s.forest c ≡ missing
      top (inl o) = (h.ground.open_top c o).1.no_parent
      top (inr e) = ap (parent s.forest) e ∙ h.upmost.no_parent

  pub opened : (depth : ℕ) (last : Bool) {O D : ℕ → Type 0} (ms : List ℕ) (b : ℕ) (s : State) → Of (Ready G.nodes O D b ms) s
      → Agree (Of (Opened G.nodes O D s.forest.parents ms)) (listed.expand_group G depth last b s) (expand_group G depth last b s)
  unfolding listed.expand_group expand_group
  opened zero last ms b s h = both_torn
  opened (suc depth) last {O} {D} ms b s h = agree_load s.forest.children b [] _ _ (λ i.
      agree_bind (agree_also (all_freed s.forest.parents ms b h.shut (listed.free_child G (λ c s. listed.expand_group G depth last c s) last)
      (free_child G (λ c s. expand_group G depth last c s) last)
      (λ c s e g f m. child_freed G fits (λ c s. listed.expand_group G depth last c s) (λ c s. expand_group G depth last c s) ms
      (λ c s r. opened depth last ms c s r) last b c s (inr refl) e g f m)
      (children_of s.forest b) s (begin fits b h.shut h refl)) (rings_stay _ last (children_of s.forest b) s)) (λ t k.
      agree_skip (at t.labelling.labels b) _ _ (λ l.
      agree_bind (agree_where {P = Of (Emptying G.nodes O D b s.forest.parents ms [])} (not last && eqb l 2) _ _ t
      (λ u. agree_map (λ v q. subst (λ F. Emptying G.nodes O D b s.forest.parents ms [] F v.pairing.mates) (sym q.0)
      (subst (Emptying G.nodes O D b s.forest.parents ms [] t.forest) (sym q.1) k.0))
      (relabelled G t.forest t.pairing.mates b (lists_fit t k.0 (k.1 (and_l (not last) (eqb l 2) u))) t (refl, refl))) k.0) (λ t k.
      retired s.forest.parents ms b h.shut t k))))
    where
      lists_fit : (t : State) → Of (Emptying G.nodes O D b s.forest.parents ms []) t → t.forest.children ≡ s.forest.children → (c : ℕ) (u : State)
          → 0 < times c (children_of t.forest b) → u.forest ≡ t.forest → listed.leaves_of G u c ≡ leaves_of G u c
      lists_fit t k q c u m e = list_fits G u fits (subst (Ground G.nodes (Or O b) (Or D b)) (sym e) k.ground) c
          (kids_shut b s h c (subst (λ (l : List (List ℕ)). 0 < times c (get_or l b [])) q m))
