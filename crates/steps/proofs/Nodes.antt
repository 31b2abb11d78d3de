-- The nodes of a group: where `leaves` does not fault, it lists just the nodes that lie in the group, each once; so the limit of 2n on a
-- leaf list is never met. And what the outermost list says after each of them has got its entry anew.
use mathlib.Core.Path.{◌≡◌, refl, sym, ap, ◌∙◌, subst}
use mathlib.Core.Logic.{◌⊎◌, inl, inr, ⊎_elim}
use mathlib.Core.List.{List, [], ◌∷◌, ◌++◌}
use Prim.Native.Nat.{ℕ, zero, suc, ◌*◌, ◌<◌, ◌≤◌, zero-le}
use native.Mathlib.Omega.{arith}
use lib.Dec.{T, eqb, ltb, ltb→lt, lt→ltb}
use lib.ListN.{length, set, length-set, length-append}
use lib.Seq.{get_or-set_same, get_or-set_other}
use Rattle.laws.specs.Lists.{Each, range}
use Rattle.laws.specs.Times.{times}
use Rattle.laws.specs.Run.{Run, ok, for_each, push}
use Rattle.laws.proofs.Lists.{length_range}
use Rattle.laws.proofs.Times.{same_or_not, less_or_not, none_or_some, bit_same, bit_other, bit_le, times_nil, times_cons, times_here, times_later, times_snoc}
use Rattle.laws.proofs.Times.{times_each, each_times, times_range, no_longer}
use Rattle.laws.proofs.Kept.{Kept, kept, torn, kept_bind, kept_map}
use Rattle.laws.proofs.Keeping.{skip, load, either_way, kept_each, kept_all, kept_both, pushed, Agree, agree, both_torn, agree_same, agree_at}
use Rattle.laws.proofs.Keeping.{agree_map, agree_bind, agree_load, agree_either}
use Rattle.matching.specs.Graph.{Graph, missing}
use Rattle.matching.specs.Certificate.{climb}
use Rattle.steps.specs.State.{Forest, State}
use Rattle.steps.specs.Leaves.{leaves, leaves_after, leaves_of}
use Rattle.steps.specs.Listed as listed
use Rattle.steps.specs.Standing.{top_of, parent, children_of, IsGroup, Free}
use Rattle.steps.proofs.Climbing.{Within, last_move, one_on, one_child}
use Rattle.steps.proofs.Frames.{Of}
use Rattle.steps.proofs.Ground.{Upmost, Placed, Pending, Used, Ground, Or, otherwise, node_childless, is_known, short, climb_ends}

each_snoc : (P : ℕ → Type 0) (xs : List ℕ) (y : ℕ) → Each P xs → P y → Each P (xs ++ (y ∷ []))
each_snoc P [] y h p = (p, tt)
each_snoc P (x ∷ xs) y h p = (h.0, each_snoc P xs y h.1 p)

module _ {n : ℕ} {O D : ℕ → Type 0} {F : Forest} (fits : 2 * n ≤ missing) (g : Ground n O D F) where
  abbrev Inside : ℕ → ℕ → Type 0
  Inside x b = Within F.parents x b

  -- a child of a group that is not open is not open either
  pub child_shut : (b c : ℕ) → b < 2 * n → parent F c ≡ b → ¬ (O c)
  child_shut b c l e o = is_known fits g b l (sym e ∙ (g.open_top c o).1.no_parent)

  -- ---- no others are listed

  module _ (P : ℕ → Type 0) where
    end_sound : (b : ℕ) (out : List ℕ) → ((x : ℕ) → x < n → Inside x b → P x) → Each P out → T (ltb b n) → Kept (Each P) (ok (out ++ (b ∷ [])))
    unfolding climb
    end_sound b out k h t = kept (each_snoc P out b h (k b (ltb→lt b n t) (0, refl)))

    leaves_sound : (depth b : ℕ) (out : List ℕ) → ¬ (O b) → ((x : ℕ) → x < n → Inside x b → P x) → Each P out
        → Kept (Each P) (listed.leaves n F.children depth b out)
    unfolding listed.leaves
    leaves_sound zero b out shut k h = either_way (ltb b n) _ _ (end_sound b out k h) (λ f. torn)
    leaves_sound (suc depth) b out shut k h = either_way (ltb b n) _ _ (end_sound b out k h)
        (λ f. load F.children b [] _ (λ l. kept_each {Q = λ c. parent F c ≡ b} (λ c out e h. leaves_sound depth c out
        (child_shut b c (omega (arith, g.children_length)) e) (λ x i w. k x i (one_on F.parents x c b w e)) h) (children_of F b) (each_times
        (λ c. parent F c ≡ b) (children_of F b) (λ c q. g.below b c shut q)) h))

  -- ---- each of them is listed

  module _ (x : ℕ) (node : x < n) where
    abbrev Listed : List ℕ → Type 0
    Listed vs = 0 < times x vs

    end_stays : (b : ℕ) (out : List ℕ) → Listed out → Kept Listed (ok (out ++ (b ∷ [])))
    end_stays b out h = kept (omega (arith, times_snoc x b out))

    stays : (depth b : ℕ) (out : List ℕ) → Listed out → Kept Listed (listed.leaves n F.children depth b out)
    unfolding listed.leaves
    stays zero b out h = either_way (ltb b n) _ _ (λ t. end_stays b out h) (λ f. torn)
    stays (suc depth) b out h = either_way (ltb b n) _ _ (λ t. end_stays b out h)
        (λ f. load F.children b [] _ (λ l. kept_each {Q = λ c. Unit {0}} (λ c out u h. stays depth c out h) (children_of F b) (each_times
        (λ c. Unit {0}) (children_of F b) (λ c q. tt)) h))

    -- in one of the children
    ring_complete : (f : ℕ → List ℕ → Run (List ℕ)) → ((c : ℕ) (out : List ℕ) → Listed out → Kept Listed (f c out))
        → ((c : ℕ) (out : List ℕ) → Inside x c → Kept Listed (f c out))
        → (kids : List ℕ) (out : List ℕ) → Listed out ⊎ ((c : ℕ) × (0 < times c kids) × Inside x c) → Kept Listed (for_each f kids out)
    ring_complete f keep find [] out (inl h) = kept h
    ring_complete f keep find [] out (inr (c, k, w)) = let no_way : ⊥ = omega (arith, times_nil c) in absurd no_way
    ring_complete f keep find (d ∷ kids) out (inl h) = kept_bind (keep d out h) (λ out h. ring_complete f keep find kids out (inl h))
    ring_complete f keep find (d ∷ kids) out (inr (c, k, w)) = ⊎_elim
        (λ e. kept_bind (find d out (rw e w)) (λ out h. ring_complete f keep find kids out (inl h)))
        (λ e. skip (f d out) _ (λ out. ring_complete f keep find kids out (inr (c, omega (arith, times_later c d kids e), w))))
        (same_or_not d c)

    end_complete : (b : ℕ) (out : List ℕ) → Inside x b → T (ltb b n) → Kept Listed (ok (out ++ (b ∷ [])))
    end_complete b out w t = ⊎_elim
        (λ (e : x ≡ b). kept (omega (arith, times_snoc x b out, bit_same b x (sym e))))
        (λ m. absurd (node_childless fits g b m.0 (ltb→lt b n t) m.2))
        (last_move F.parents w.0 x b w.1)

    in_a_child : (b : ℕ) → b < 2 * n → Inside x b → (T (ltb b n) → ⊥) → (c : ℕ) × (0 < times c (children_of F b)) × Inside x c
    in_a_child b l w f = ⊎_elim
        (λ e. absurd (f (lt→ltb b n (omega arith))))
        (λ m. (m.0, rw m.2 at (g.above m.0 (λ z. is_known fits g b l (sym m.2 ∙ z))).listed, m.1))
        (last_move F.parents w.0 x b w.1)

    leaves_complete : (depth b : ℕ) (out : List ℕ) → Inside x b → Kept Listed (listed.leaves n F.children depth b out)
    unfolding listed.leaves
    leaves_complete zero b out w = either_way (ltb b n) _ _ (end_complete b out w) (λ f. torn)
    leaves_complete (suc depth) b out w = either_way (ltb b n) _ _ (end_complete b out w)
        (λ f. load F.children b [] _ (λ l. ring_complete (λ c out. listed.leaves n F.children depth c out) (stays depth) (leaves_complete depth)
        (children_of F b) out (inr (in_a_child b (omega (arith, g.children_length)) w f))))

  -- ---- each once, so no more than n, and a limit of n or more changes nothing

  record Once (vs : List ℕ) : Type 0 where
    are_nodes : Each (λ x. x < n) vs
    none_twice : (x : ℕ) → times x vs ≤ 1

  once_few : (vs : List ℕ) → Once vs → length vs ≤ n
  once_few vs h = omega (arith, length_range 0 n, no_longer n vs (range 0 n) h.are_nodes at_most)
    where
      at_most : (x : ℕ) → times x vs ≤ times x (range 0 n)
      at_most x = ⊎_elim
          (λ z. omega (arith, z))
          (λ k. omega (arith, h.none_twice x, times_range x 0 n zero-le (omega (arith, times_each (λ x. x < n) vs x h.are_nodes k))))
          (none_or_some (times x vs))

  -- none of b's nodes is there yet
  abbrev Apart : (b : ℕ) → List ℕ → Type 0
  Apart b out = (x : ℕ) → x < n → Inside x b → times x out ≡ 0

  -- b's nodes are added, and no others
  record Added (b : ℕ) (out vs : List ℕ) : Type 0 where
    once : Once vs
    from_b : (x : ℕ) → 0 < times x vs → (0 < times x out) ⊎ Inside x b

  module _ (cap : ℕ) (room : n ≤ cap) where
    end_once : (b : ℕ) (out : List ℕ) → Once out → Apart b out → T (ltb b n) → Agree (Added b out) (ok (out ++ (b ∷ []))) (push cap b out)
    unfolding climb
    end_once b out h a t = agree_at (sym (pushed cap b out (omega (arith, room, once_few (out ++ (b ∷ [])) longer, length-append out (b ∷ [])))))
        (kept (record { once = longer; from_b = from }))
      where
        longer : Once (out ++ (b ∷ []))
        longer = record {
          are_nodes = each_snoc (λ x. x < n) out b h.are_nodes (ltb→lt b n t);
          none_twice = λ x. ⊎_elim
              (λ e. omega (arith, times_snoc x b out, bit_le (eqb b x), ap (λ z. times z out) e, a b (ltb→lt b n t) (0, refl)))
              (λ d. omega (arith, times_snoc x b out, bit_other b x d, h.none_twice x))
              (same_or_not b x);
        }

        from : (x : ℕ) → 0 < times x (out ++ (b ∷ [])) → (0 < times x out) ⊎ Inside x b
        from x k = ⊎_elim (λ e. inr (0, sym e)) (λ d. inl (omega (arith, times_snoc x b out, bit_other b x d))) (same_or_not b x)

    -- one child of b after the other
    ring_once : (f f' : ℕ → List ℕ → Run (List ℕ)) (b : ℕ) → b < 2 * n
        → ((c : ℕ) (out : List ℕ) → parent F c ≡ b → Once out → Apart c out → Agree (Added c out) (f c out) (f' c out))
        → (kids : List ℕ) → ((c : ℕ) → 0 < times c kids → parent F c ≡ b) → ((c : ℕ) → times c kids ≤ 1)
        → (out : List ℕ) → Once out → ((c : ℕ) → 0 < times c kids → Apart c out) → Agree (Added b out) (for_each f kids out) (for_each f' kids out)
    ring_once f f' b l child [] of_b twice out h a = agree (record { once = h; from_b = λ x k. inl k })
    ring_once f f' b l child (d ∷ kids) of_b twice out h a =
        agree_bind (child d out (of_b d (omega (arith, times_here d kids))) h (a d (omega (arith, times_here d kids)))) (λ out₁ k.
        agree_map (λ vs r. record { once = r.once; from_b = λ x i. ⊎_elim (λ i. back out₁ k x i) (λ w. inr w) (r.from_b x i) })
        (ring_once f f' b l child kids (λ c i. of_b c (later c i)) (λ c. omega (arith, twice c, times_cons c d kids)) out₁ k.once
        (λ c i x j w. apart out₁ k c i x j w)))
      where
        later : (c : ℕ) → 0 < times c kids → 0 < times c (d ∷ kids)
        later c i = omega (arith, times_cons c d kids)

        back : (out₁ : List ℕ) → Added d out out₁ → (x : ℕ) → 0 < times x out₁ → (0 < times x out) ⊎ Inside x b
        back out₁ k x i = ⊎_elim (λ i. inl i) (λ w. inr (one_on F.parents x d b w (of_b d (omega (arith, times_here d kids))))) (k.from_b x i)

        apart : (out₁ : List ℕ) → Added d out out₁ → (c : ℕ) → 0 < times c kids → Apart c out₁
        apart out₁ k c i x j w = ⊎_elim (λ z. z) (λ m. absurd (⊎_elim was_there was_below (k.from_b x m))) (none_or_some (times x out₁))
          where
            was_there : 0 < times x out → ⊥
            was_there m = omega (arith, a c (later c i) x j w)

            twice_there : c ≡ d → ⊥
            twice_there e = omega (arith, twice d, times_here d kids, ap (λ z. times z kids) e)

            was_below : Inside x d → ⊥
            was_below v = twice_there (one_child F.parents (short fits g) w.0 v.0 (climb_ends fits g x j).0 x c d b w.1 v.1 (of_b c (later c i))
                (of_b d (omega (arith, times_here d kids))) (climb_ends fits g x j).1 (is_known fits g b l))

    leaves_once : (depth b : ℕ) (out : List ℕ) → ¬ (O b) → Once out → Apart b out
        → Agree (Added b out) (listed.leaves n F.children depth b out) (leaves n cap F.children depth b out)
    unfolding listed.leaves leaves
    leaves_once zero b out shut h a = agree_either (ltb b n) _ _ _ _ (λ t. end_once b out h a t) (λ f. both_torn)
    leaves_once (suc depth) b out shut h a = agree_either (ltb b n) _ _ _ _ (λ t. end_once b out h a t)
        (λ f. agree_load F.children b [] _ _ (λ l. group (omega (arith, l, g.children_length)) (λ t. f (lt→ltb b n t))
        (λ c out s h a. leaves_once depth c out s h a)))
      where
        group : b < 2 * n → ¬ (b < n)
            → ((c : ℕ) (out : List ℕ) → ¬ (O c) → Once out → Apart c out
            → Agree (Added c out) (listed.leaves n F.children depth c out) (leaves n cap F.children depth c out))
            → Agree (Added b out) (for_each (λ c out. listed.leaves n F.children depth c out) (children_of F b) out)
            (for_each (λ c out. leaves n cap F.children depth c out) (children_of F b) out)
        group l m child = ring_once _ _ b l (λ c out e h a. child c out (child_shut b c l e) h a) (children_of F b)
            (λ c i. g.below b c shut i) twice out h (λ c i x j w. a x j (one_on F.parents x c b w (g.below b c shut i)))
          where
            is_group : IsGroup n b
            is_group = (⊎_elim (λ k. absurd (m k)) (λ k. k) (less_or_not b n), l)

            twice : (c : ℕ) → times c (children_of F b) ≤ 1
            twice c = ⊎_elim
                (λ (u : Used F b). (g.ring b is_group u.0).none_twice c)
                (λ (u : Free F b). omega (arith, ap (times c) u.no_children, times_nil c))
                (g.number b is_group)

-- ---- together

pub record Exactly (n : ℕ) (F : Forest) (b : ℕ) (vs : List ℕ) : Type 0 where
  pub are_inside : Each (λ x. (x < n) × Within F.parents x b) vs
  pub are_all : (x : ℕ) → x < n → Within F.parents x b → 0 < times x vs

module _ {O D : ℕ → Type 0} (G : Graph) (s : State) (fits : 2 * G.nodes ≤ missing) (g : Ground G.nodes O D s.forest) (b : ℕ) (shut : ¬ (O b)) where
  -- the limit of 2n is never met
  pub list_fits : listed.leaves_of G s b ≡ leaves_of G s b
  unfolding listed.leaves_of leaves_of leaves_after
  list_fits = agree_same (leaves_once fits g (2 * G.nodes) (omega arith) G.nodes b [] shut (record {
    are_nodes = tt;
    none_twice = λ x. omega
        (arith, times_nil x);
  }) (λ x l w. times_nil x))

  pub nodes_listed : Agree (Exactly G.nodes s.forest b) (listed.leaves_of G s b) (leaves_of G s b)
  unfolding listed.leaves_of
  nodes_listed =
      let n = G.nodes in
      let F = s.forest in
      let m = listed.leaves n F.children n b [] in
      agree_at list_fits (kept_map (λ vs h. record { are_inside = h.0; are_all = h.1 })
      (kept_both m (leaves_sound fits g (λ x. (x < n) × Within F.parents x b) n b [] shut (λ x l w. (l, w)) tt)
      (kept_all m (λ x. kept_all m (λ l. kept_all m (λ w. leaves_complete fits g x l n b [] w))))))

-- ---- their entries anew

-- the same forest with another outermost list
abbrev pub retop : List ℕ → Forest → Forest
retop l F =
    record {
      tops = l;
      parents = F.parents;
      bases = F.bases;
      children = F.children;
      ring_ends = F.ring_ends;
      free = F.free;
    }

module _ {n : ℕ} {O D : ℕ → Type 0} (d : ℕ) where
  -- one entry more names the outermost number d, which holds the node
  one_entry : {F : Forest} → Ground n O D F → (v : ℕ) → v < n → Upmost n F d → Within F.parents v d → Ground n O D (retop (set F.tops v d) F)
  one_entry {F} g v l u w = record {
    tops_length = length-set F.tops v d ∙ g.tops_length;
    parents_length = g.parents_length;
    bases_length = g.bases_length;
    children_length = g.children_length;
    node_base = g.node_base;
    node_alone = g.node_alone;
    free_group = g.free_group;
    number = number_now;
    ring = g.ring;
    above = λ x m. let h = g.above x m in record { by_group = h.by_group; in_use = h.in_use; listed = h.listed };
    below = g.below;
    open_top = λ b o. ((g.open_top b o).0, upmost_now b (g.open_top b o).1);
    placed = placed_now;
    pending_top = g.pending_top;
  }
    where
      F' : Forest
      F' = retop (set F.tops v d) F

      upmost_now : (b : ℕ) → Upmost n F b → Upmost n F' b
      upmost_now b h = record { is_number = h.is_number; in_use = h.in_use; no_parent = h.no_parent }

      number_now : (b : ℕ) → IsGroup n b → Used F' b ⊎ Free F' b
      number_now b k = ⊎_elim (λ h. inl h) (λ h. inr
          (record { no_base = h.no_base; once_free = h.once_free; no_children = h.no_children; no_parent = h.no_parent })) (g.number b k)

      here : top_of F' v ≡ d
      here = get_or-set_same F.tops v d missing (omega (arith, g.tops_length))

      placed_now : (x : ℕ) → x < n → Placed n F' x ⊎ Pending D F' x
      placed_now x k = ⊎_elim
          (λ e. let there : top_of F' x ≡ d = ap (top_of F') e ∙ here in
          inl (record { upmost = rw there (upmost_now d u); lies = rw there (subst (λ z. Within F.parents z d) (sym e) w) }))
          (λ e. let there : top_of F' x ≡ top_of F x = get_or-set_other F.tops v x d missing e in
          ⊎_elim (λ p. inl (record { upmost = rw there (upmost_now (top_of F x) p.upmost); lies = rw there p.lies })) (λ p. inr p) (g.placed x k))
          (same_or_not x v)

-- what holds while the nodes of d get their entries, and `rest` of them are to come
pub record Stamping (n : ℕ) (O D : ℕ → Type 0) (ps fr ms : List ℕ) (d : ℕ) (rest : List ℕ) (F : Forest) (M : List ℕ) : Type 0 where
  pub ground : Ground n O (Or D d) F
  pub upmost : Upmost n F d
  pub parents_same : F.parents ≡ ps
  pub free_same : F.free ≡ fr
  pub mates_same : M ≡ ms
  pub to_come : (x : ℕ) → x < n → Within ps x d → (top_of F x ≡ d) ⊎ (0 < times x rest)

-- and after the last
pub record Stamped (n : ℕ) (O D : ℕ → Type 0) (ps fr ms : List ℕ) (F : Forest) (M : List ℕ) : Type 0 where
  pub ground : Ground n O D F
  pub parents_same : F.parents ≡ ps
  pub free_same : F.free ≡ fr
  pub mates_same : M ≡ ms

module _ {n : ℕ} {O D : ℕ → Type 0} {ps fr ms : List ℕ} {d : ℕ} where
  pub stamp : {F : Forest} {M : List ℕ} (v : ℕ) (rest : List ℕ) → (v < n) × Within ps v d → Stamping n O D ps fr ms d (v ∷ rest) F M
      → Stamping n O D ps fr ms d rest (retop (set F.tops v d) F) M
  stamp {F} v rest (l, w) h = record {
    ground = one_entry d h.ground v l h.upmost (rw h.parents_same w);
    upmost = record { is_number = h.upmost.is_number; in_use = h.upmost.in_use; no_parent = h.upmost.no_parent };
    parents_same = h.parents_same;
    free_same = h.free_same;
    mates_same = h.mates_same;
    to_come = come;
  }
    where
      F' : Forest
      F' = retop (set F.tops v d) F

      come : (x : ℕ) → x < n → Within ps x d → (top_of F' x ≡ d) ⊎ (0 < times x rest)
      come x k i = ⊎_elim
          (λ e. inl (ap (top_of F') e ∙ get_or-set_same F.tops v d missing (omega (arith, h.ground.tops_length))))
          (λ e. ⊎_elim (λ q. inl (get_or-set_other F.tops v x d missing e ∙ q)) (λ q. inr (omega (arith, times_later x v rest (λ z. e (sym z)))))
          (h.to_come x k i))
          (same_or_not x v)

  pub stamp_all : (f : ℕ → State → Run State)
      → ((v : ℕ) (rest : List ℕ) (s : State) → (v < n) × Within ps v d → Of (Stamping n O D ps fr ms d (v ∷ rest)) s
      → Kept (Of (Stamping n O D ps fr ms d rest)) (f v s))
      → (vs : List ℕ) (s : State) → Each (λ x. (x < n) × Within ps x d) vs → Of (Stamping n O D ps fr ms d vs) s
      → Kept (Of (Stamping n O D ps fr ms d [])) (for_each f vs s)
  stamp_all f step [] s h k = kept k
  stamp_all f step (v ∷ vs) s h k = kept_bind (step v vs s h.0 k) (λ t k. stamp_all f step vs t h.1 k)

  pub stamp_end : {F : Forest} {M : List ℕ} → Stamping n O D ps fr ms d [] F M → Stamped n O D ps fr ms F M
  stamp_end {F} h = record {
    ground = otherwise (λ b o. o) h.ground.open_top done (λ b o. h.ground.pending_top b (inl o)) h.ground;
    parents_same = h.parents_same;
    free_same = h.free_same;
    mates_same = h.mates_same;
  }
    where
      now : (x : ℕ) → x < n → Within F.parents x d → Placed n F x
      now x l w = ⊎_elim
          (λ e. record { upmost = rw e h.upmost; lies = rw e w })
          (λ k. let no_way : ⊥ = omega (arith, times_nil x) in absurd no_way)
          (h.to_come x l (rw h.parents_same at w))

      done : (x : ℕ) → x < n → Placed n F x ⊎ Pending (Or D d) F x → Placed n F x ⊎ Pending D F x
      done x l (inl p) = inl p
      done x l (inr (b, inl o, w)) = inr (b, o, w)
      done x l (inr (b, inr e, w)) = inl (now x l (subst (Within F.parents x) e w))
