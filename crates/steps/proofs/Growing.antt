-- A new group is made of outermost numbers: the forest with the new ring keeps the invariant, but for the entries of the nodes in it.
use mathlib.Core.Path.{◌≡◌, refl, sym, ap, ◌∙◌, subst}
use mathlib.Core.Bool.{Bool, true, false, not, ◌&&◌}
use mathlib.Core.Logic.{◌≢◌, ◌⊎◌, inl, inr, ⊎_elim}
use mathlib.Core.List.{List, [], ◌∷◌, ◌++◌}
use Prim.Native.Nat.{ℕ, ◌+◌, ◌*◌, ◌%◌, ◌<◌, ◌≤◌}
use native.Mathlib.Omega.{arith}
use lib.Dec.{T, leb, eqb→eq, leb→le, le→leb}
use lib.Ieee.Fits.{and_l, and_r}
use lib.ListN.{length, set, length-set, get_or-eq_default}
use lib.Seq.{get_or-set_same, get_or-set_other}
use Rattle.laws.specs.Lists.{Each, repeats}
use Rattle.laws.specs.Times.{times}
use Rattle.laws.specs.Run.{◌>>=◌, for_each}
use Rattle.laws.proofs.Lists.{each_map}
use Rattle.laws.proofs.Times.{same_or_not, none_or_some, bit_same, bit_other, times_nil, times_cons, times_later, times_snoc, times_once, times_each}
use Rattle.laws.proofs.Kept.{Kept, kept, kept_bind, kept_map}
use Rattle.laws.proofs.Keeping.{store, stored, Agree, agree_of, agree_holding}
use Rattle.matching.specs.Graph.{Graph, missing, is_odd}
use Rattle.matching.specs.Certificate.{parent_of}
use Rattle.steps.specs.State.{Forest, State}
use Rattle.steps.specs.Stores.{with_parents, with_bases, with_children, with_free, put_children, put_ring_ends}
use Rattle.steps.specs.Add.{fit_children, adopt, ring_up}
use Rattle.steps.specs.Listed as listed
use Rattle.steps.specs.Standing.{top_of, parent, base_of, children_of, IsGroup, InUse, Free}
use Rattle.steps.proofs.Climbing.{Within, parent_same, parent_other, still_within, one_on}
use Rattle.steps.proofs.Frames.{Of}
use Rattle.steps.proofs.Entries.{Entry, entry_upmost, few_entries}
use Rattle.steps.proofs.Ground.{Upmost, Placed, Pending, Used, Held, Fit, Ground, Nothing, Or, is_known, short}

-- ---- the children get their parent

pub record Adopts (new : ℕ) (kids ps qs : List ℕ) : Type 0 where
  pub same_length : length qs ≡ length ps
  pub for_kids : (x : ℕ) → 0 < times x kids → parent_of qs x ≡ new
  pub for_others : (x : ℕ) → times x kids ≡ 0 → parent_of qs x ≡ parent_of ps x

adopt_one : (new c : ℕ) (kids ps qs : List ℕ) → c < length ps → Adopts new kids (set ps c new) qs → Adopts new (c ∷ kids) ps qs
adopt_one new c kids ps qs l h = record {
  same_length = h.same_length ∙ length-set ps c new;
  for_kids = λ x k. ⊎_elim
      (λ z. h.for_others x z ∙ first x (⊎_elim (λ e. e) (λ d. let no_way : ⊥ = omega (arith, times_later x c kids d) in absurd no_way) (same_or_not c x)))
      (λ p. h.for_kids x p)
      (none_or_some (times x kids));
  for_others = λ x z. h.for_others x (omega (arith, times_cons x c kids)) ∙ parent_other ps c new x (λ e. let no_way : ⊥ = omega
      (arith, times_cons x c kids, bit_same c x (sym e)) in no_way);
}
  where
    first : (x : ℕ) → c ≡ x → parent_of (set ps c new) x ≡ new
    first x e = rw (← e) (parent_same ps c new l)

pub adopted : (new : ℕ) (kids : List ℕ) (s : State)
    → Kept (λ t. (qs : List ℕ) × (t ≡ with_parents qs s) × Adopts new kids s.forest.parents qs) (for_each (adopt new) kids s)
unfolding adopt
adopted new [] s = kept (
  s.forest.parents,
  refl,
  record {
    same_length = refl;
    for_kids = λ x k. (let no_way : ⊥ = omega
        (arith, times_nil x) in absurd no_way);
    for_others = λ x z. refl;
  },
)
adopted new (c ∷ kids) s = stored s.forest.parents c new (λ l. with_parents l s) _ (λ l.
    kept_map (λ t h. (h.0, h.1, adopt_one new c kids s.forest.parents h.0 l h.2)) (adopted new kids
    (with_parents (set s.forest.parents c new) s)))

-- ---- the forest

abbrev pub grown : (new base : ℕ) → (kids qs rest : List ℕ) → List (List ℕ) → Forest → Forest
grown new base kids qs rest ends F =
    record {
      tops = F.tops;
      parents = qs;
      bases = set F.bases new base;
      children = set F.children new kids;
      ring_ends = ends;
      free = rest;
    }

-- the number taken was free
module _ {n : ℕ} {F : Forest} (g : Ground n Nothing Nothing F) (new : ℕ) (rest : List ℕ) (taken : F.free ≡ rest ++ (new ∷ [])) where
  taken_once : times new F.free ≡ times new rest + 1
  taken_once = omega (arith, ap (times new) taken, times_snoc new new rest, bit_same new new refl)

  taken_group : IsGroup n new
  taken_group = g.free_group new (omega (arith, taken_once))

  taken_unused : Free F new
  taken_unused = ⊎_elim (λ (u : Used F new). let no_way : ⊥ = omega (arith, taken_once, u.1) in absurd no_way) (λ u. u) (g.number new taken_group)

module _ {n : ℕ} {F : Forest} (fits : 2 * n ≤ missing) (g : Ground n Nothing Nothing F) (new base : ℕ) (kids qs rest : List ℕ) (ends : List (List ℕ))
    (taken : F.free ≡ rest ++ (new ∷ [])) (known : base ≢ missing) (fit : Fit kids) (tops : Each (Upmost n F) kids) (adopts : Adopts new kids
    F.parents qs) where
  abbrev F' : Forest
  F' = grown new base kids qs rest ends F

  unused : Free F new
  unused = taken_unused g new rest taken

  new_group : IsGroup n new
  new_group = taken_group g new rest taken

  was_free : times new F.free ≡ times new rest + 1
  was_free = taken_once g new rest taken

  kid_upmost : (x : ℕ) → 0 < times x kids → Upmost n F x
  kid_upmost x k = times_each (Upmost n F) kids x tops k

  used_other : (x : ℕ) → InUse F x → x ≢ new
  used_other x u e = u (ap (base_of F) e ∙ unused.no_base)

  not_kid : (x : ℕ) → parent F x ≢ missing → times x kids ≡ 0
  not_kid x d = ⊎_elim (λ z. z) (λ k. absurd (d (kid_upmost x k).no_parent)) (none_or_some (times x kids))

  base_here : base_of F' new ≡ base
  base_here = get_or-set_same F.bases new base missing (omega (arith, new_group.1, g.bases_length))

  base_there : (x : ℕ) → x ≢ new → base_of F' x ≡ base_of F x
  base_there x d = get_or-set_other F.bases new x base missing d

  ring_here : children_of F' new ≡ kids
  ring_here = get_or-set_same F.children new kids [] (omega (arith, new_group.1, g.children_length))

  ring_there : (x : ℕ) → x ≢ new → children_of F' x ≡ children_of F x
  ring_there x d = get_or-set_other F.children new x kids [] d

  in_use_now : (x : ℕ) → InUse F x → InUse F' x
  in_use_now x u = rw (base_there x (used_other x u)) u

  -- the new number is not among its own children
  new_no_kid : times new kids ≡ 0
  new_no_kid = ⊎_elim (λ z. z) (λ k. absurd ((kid_upmost new k).in_use unused.no_base)) (none_or_some (times new kids))

  pub new_upmost : Upmost n F' new
  new_upmost = record {
    is_number = new_group.1;
    in_use = rw base_here known;
    no_parent = adopts.for_others new new_no_kid ∙ unused.no_parent;
  }

  same_times : (x : ℕ) → x ≢ new → times x F.free ≡ times x rest
  same_times x d = omega (arith, ap (times x) taken, times_snoc x new rest, bit_other new x (λ e. d (sym e)))

  pub grown_ground : Ground n Nothing (Or Nothing new) F'
  grown_ground = record {
    tops_length = g.tops_length;
    parents_length = adopts.same_length ∙ g.parents_length;
    bases_length = length-set F.bases new base ∙ g.bases_length;
    children_length = length-set F.children new kids ∙ g.children_length;
    node_base = λ v l. base_there v (omega (arith, new_group.0)) ∙ g.node_base v l;
    node_alone = λ v l. ring_there v (omega (arith, new_group.0)) ∙ g.node_alone v l;
    free_group = λ x h. g.free_group x (omega (arith, ap (times x) taken, times_snoc x new rest));
    number = number_now;
    ring = ring_now;
    above = above_now;
    below = below_now;
    open_top = λ x o. absurd o;
    placed = placed_now;
    pending_top = λ d o. ⊎_elim (λ o. absurd o) (λ q. ap (parent F') q ∙ new_upmost.no_parent) o;
  }
    where
      number_now : (x : ℕ) → IsGroup n x → Used F' x ⊎ Free F' x
      number_now x k = ⊎_elim
          (λ (e : x ≡ new). inl (rw (e, base_here) known, omega (arith, unused.once_free, was_free, ap (λ z. times z rest) e)))
          (λ d. ⊎_elim
          (λ (u : Used F x). inl (in_use_now x u.0, sym (same_times x d) ∙ u.1))
          (λ (u : Free F x). inr (record {
            no_base = base_there x d ∙ u.no_base;
            once_free = sym (same_times x d) ∙ u.once_free;
            no_children = ring_there x d ∙ u.no_children;
            no_parent = adopts.for_others x (⊎_elim (λ z. z) (λ k. absurd ((kid_upmost x k).in_use u.no_base)) (none_or_some (times x kids))) ∙ u.no_parent;
          }))
          (g.number x k))
          (same_or_not x new)

      ring_now : (x : ℕ) → IsGroup n x → InUse F' x → Fit (children_of F' x)
      ring_now x k u = ⊎_elim
          (λ e. subst Fit (sym (ap (children_of F') e ∙ ring_here)) fit)
          (λ d. rw (ring_there x d) (g.ring x k (rw (base_there x d) at u)))
          (same_or_not x new)

      above_now : (x : ℕ) → parent F' x ≢ missing → Held n F' x
      above_now x m = ⊎_elim
          (λ z. let same : parent F' x ≡ parent F x = adopts.for_others x z in
          let h = g.above x (λ q. m (same ∙ q)) in
          let other = used_other (parent F x) h.in_use in
          record {
            by_group = rw same h.by_group;
            in_use = rw same (in_use_now (parent F x) h.in_use);
            listed = rw same (rw (ring_there (parent F x) other) h.listed);
          })
          (λ p. let mine : parent F' x ≡ new = adopts.for_kids x p in
          record { by_group = rw mine new_group; in_use = rw mine new_upmost.in_use; listed = rw mine (rw ring_here p) })
          (none_or_some (times x kids))

      below_now : (y c : ℕ) → ¬ ⊥ → 0 < times c (children_of F' y) → parent F' c ≡ y
      below_now y c s h = ⊎_elim
          (λ e. adopts.for_kids c (subst (λ l. 0 < times c l) (ap (children_of F') e ∙ ring_here) h) ∙ sym e)
          (λ d. old (rw (ring_there y d) at h))
          (same_or_not y new)
        where
          old : 0 < times c (children_of F y) → parent F' c ≡ y
          old h = adopts.for_others c (not_kid c (λ q. nowhere (sym (g.below y c s h) ∙ q))) ∙ g.below y c s h
            where
              nowhere : y ≡ missing → ⊥
              nowhere q = let no_way : ⊥ = omega (
                arith,
                ap (times c) (get_or-eq_default F.children [] {n = y} (omega
                    (arith, g.children_length))),
                times_nil c,
              ) in no_way

      placed_now : (v : ℕ) → v < n → Placed n F' v ⊎ Pending (Or Nothing new) F' v
      placed_now v l = ⊎_elim old (λ p. absurd p.1) (g.placed v l)
        where
          old : Placed n F v → Placed n F' v ⊎ Pending (Or Nothing new) F' v
          old p =
              let t = top_of F v in
              let w : Within qs v t = still_within F.parents (short fits g) qs (λ x d. adopts.for_others x (not_kid x d)) p.lies.0 v t
              p.lies.1 (is_known fits g t p.upmost.is_number) in
              ⊎_elim
              (λ z. inl (record {
                upmost = record {
                  is_number = p.upmost.is_number;
                  in_use = in_use_now t
                      p.upmost.in_use;
                  no_parent = adopts.for_others t z ∙ p.upmost.no_parent;
                };
                lies = w;
              }))
              (λ k. inr (new, inr refl, one_on qs v t new w (adopts.for_kids t k)))
              (none_or_some (times t kids))

-- ---- the routine

-- the new group stands; the nodes in it are to get their entries
pub record Ringed (n new : ℕ) (rest ms : List ℕ) (F : Forest) (M : List ℕ) : Type 0 where
  pub ground : Ground n Nothing (Or Nothing new) F
  pub upmost : Upmost n F new
  pub free_same : F.free ≡ rest
  pub mates_same : M ≡ ms

fit_kids : (kids : List ℕ) → T (listed.fit_children kids) → Fit kids
unfolding listed.fit_children
fit_kids kids t = record {
  is_odd = eqb→eq (length kids % 2) 1 (search (and_l, and_r));
  three_or_more = leb→le 3 (length kids) (search (and_l, and_r));
  none_twice = times_once kids (search (and_l, and_r));
}

-- to forget the new number's parent changes nothing: it has none
adopts_anew : (new : ℕ) (kids ps qs : List ℕ) → new < length ps → parent_of ps new ≡ missing → Adopts new kids (set ps new missing) qs → Adopts new kids ps qs
adopts_anew new kids ps qs l e h = record {
  same_length = h.same_length ∙ length-set ps new missing;
  for_kids = h.for_kids;
  for_others = λ x z. h.for_others x z ∙ ⊎_elim (λ q. ap (parent_of (set ps new missing)) q ∙ parent_same ps new missing l ∙ sym e ∙ ap (parent_of ps)
      (sym q)) (λ d. parent_other ps new missing x d) (same_or_not x new);
}

-- the children are entries of the outermost list, none twice, so no more than n; and the number taken is a group's
same_fit : {n : ℕ} {F : Forest} → Ground n Nothing Nothing F → (kids : List ℕ) (new : ℕ) → Each (Entry F) kids → n ≤ new
    → listed.fit_children kids ≡ (fit_children n kids && leb n new)
unfolding listed.fit_children fit_children
same_fit {n} g kids new h l = go (is_odd (length kids)) (leb 3 (length kids)) (leb (length kids) n) (not (repeats kids)) (leb n new)
    (λ t. le→leb (length kids) n (few_entries g kids h (times_once kids t))) (le→leb n new l)
  where
    go : (a b c d e : Bool) → (T d → T c) → T e → (a && b && d) ≡ ((a && b && c && d) && e)
    go a b c d false f t = absurd t
    go false b c d true f t = refl
    go true false c d true f t = refl
    go true true true true true f t = refl
    go true true true false true f t = refl
    go true true false true true f t = absurd (f tt)
    go true true false false true f t = refl

pub ring_made : (G : Graph) (new base : ℕ) (kids ends rest : List ℕ) (s : State) → 2 * G.nodes ≤ missing
    → Ground G.nodes Nothing Nothing s.forest → s.forest.free ≡ rest ++ (new ∷ []) → base ≢ missing → Each (Entry s.forest) kids
    → Agree (Of (Ringed G.nodes new rest s.pairing.mates)) (listed.ring_up new base kids ends (with_free rest s))
    (ring_up G new base kids ends (with_free rest s))
unfolding listed.ring_up ring_up
ring_made G new base kids ends rest s fits g taken known entries =
    agree_holding (listed.fit_children kids) (fit_children G.nodes kids && leb G.nodes new)
    (same_fit g kids new entries (taken_group g new rest taken).0) _ _ (λ t. agree_of (
    stored s.forest.bases new base (λ l. with_bases l (with_free rest s)) _ (λ _.
    stored s.forest.parents new missing (λ l. with_parents l (with_bases (set s.forest.bases new base) (with_free rest s))) _ (λ i.
    kept_bind (adopted new kids (with_parents (set s.forest.parents new missing) (with_bases (set s.forest.bases new base) (with_free rest s)))) (λ u h.
    subst (λ u. Kept (Of (Ringed G.nodes new rest s.pairing.mates)) (put_children new kids u >>= λ u. put_ring_ends new ends u)) (sym h.1)
    (stored s.forest.children new kids (λ l. with_children l (with_parents h.0 (with_bases (set s.forest.bases new base) (with_free rest s)))) _ (λ _.
    store s.forest.ring_ends new ends _ (λ _. kept (now h.0 (set s.forest.ring_ends new ends) t
    (adopts_anew new kids s.forest.parents h.0 i (taken_unused g new rest taken).no_parent h.2))))))))))
  where
    tops : Each (Upmost G.nodes s.forest) kids
    tops = each_map (entry_upmost g) kids entries

    now : (qs : List ℕ) (ends : List (List ℕ)) → T (listed.fit_children kids) → Adopts new kids s.forest.parents qs
        → Ringed G.nodes new rest s.pairing.mates (grown new base kids qs rest ends s.forest) s.pairing.mates
    now qs ends t a = record {
      ground = grown_ground fits g new base kids qs rest ends taken known (fit_kids kids t) tops a;
      upmost = new_upmost fits g new base kids qs rest ends taken known (fit_kids kids t) tops a;
      free_same = refl;
      mates_same = refl;
    }
