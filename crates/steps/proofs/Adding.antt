-- Adding a group (`add_group`) keeps the invariant, and a free number is left. Without the limits on a ring, on links and on leaf lists, and
-- whatever number is free, it is the same.
use mathlib.Core.Path.{◌≡◌, refl, sym, ◌∙◌, subst}
use mathlib.Core.Logic.{◌≢◌, inr}
use mathlib.Core.List.{List, [], ◌∷◌, ◌++◌, reverse}
use Prim.Native.Nat.{ℕ, ◌*◌, ◌<◌, ◌≤◌}
use native.Mathlib.Omega.{arith}
use lib.Dec.{eqb}
use lib.ListN.{length}
use Rattle.laws.specs.Lists.{Each}
use Rattle.laws.specs.Run.{must, at, Popped}
use Rattle.laws.proofs.Times.{each_append, each_reverse}
use Rattle.laws.proofs.Kept.{Kept, kept, kept_bind, kept_map, kept_only_if, kept_while}
use Rattle.laws.proofs.Keeping.{skip, load, store, kept_pop, Agree, agree_of, agree_map, agree_bind, agree_skip, agree_load}
use Rattle.matching.specs.Graph.{Graph, missing}
use Rattle.matching.specs.Certificate.{MateHolds}
use Rattle.steps.specs.Ends.{present, endpoint}
use Rattle.steps.specs.State.{Forest, State}
use Rattle.steps.specs.Leaves.{leaves_of}
use Rattle.steps.specs.Label.{enqueue}
use Rattle.steps.specs.Add.{Trace, trace_goes, traceable, trace_move, trace, take_in, add_group}
use Rattle.steps.specs.Listed as listed
use Rattle.steps.specs.Standing.{top_of}
use Rattle.steps.proofs.Climbing.{Within}
use Rattle.steps.proofs.Frames.{Of, enqueue_keeps, settle_keeps}
use Rattle.steps.proofs.Ground.{Ground, Nothing}
use Rattle.steps.proofs.Count.{ground_counted, free_there}
use Rattle.steps.proofs.Nodes.{list_fits, nodes_listed, Stamping, Stamped, stamp, stamp_all, stamp_end}
use Rattle.steps.proofs.Turning.{Firm}
use Rattle.steps.proofs.Entries.{Entry}
use Rattle.steps.proofs.Growing.{Ringed, ring_made}
use Rattle.steps.proofs.Relabelling.{Same}
use Rattle.steps.proofs.Linking.{edges_found}

-- ---- the two paths, of entries of the outermost list

module _ (G : Graph) (s : State) where
  abbrev PathSoFar : Trace → Type 0
  PathSoFar k = Entry s.forest k.here × Each (Entry s.forest) k.kids

  trace_moved : (k : Trace) → PathSoFar k → Kept PathSoFar (trace_move G s k)
  unfolding trace_move
  trace_moved k h =
      skip (at s.labelling.label_ends k.here) _ (λ e. skip (present e) _ (λ e. skip (traceable s k.here e) _
      (λ fine. skip (must fine) _ (λ u. skip (endpoint G e) _ (λ v.
      load s.forest.tops v missing _ (λ l. kept ((v, l, refl), each_append (Entry s.forest) k.kids (k.here ∷ []) h.1 (h.0, tt))))))))

  traced : (stop b : ℕ) → Entry s.forest b → Kept (λ k. Each (Entry s.forest) k.kids) (trace G s stop b)
  unfolding trace
  traced stop b u = kept_map (λ k h. h.0.1) (kept_while {I = PathSoFar} {test = trace_goes stop} (λ k h t. trace_moved k h) (2 * G.nodes)
      (record { here = b; kids = []; ends = [] }) (u, tt))

-- ---- the nodes of the new group

module _ {n : ℕ} {ps fr ms : List ℕ} (G : Graph) (new : ℕ) where
  taken_in : (v : ℕ) (rest : List ℕ) (s : State) → (v < n) × Within ps v new → Of (Stamping n Nothing Nothing ps fr ms new (v ∷ rest)) s
      → Kept (Of (Stamping n Nothing Nothing ps fr ms new rest)) (take_in G new v s)
  unfolding take_in
  taken_in v rest s w h =
      skip (at s.forest.tops v) _ (λ t. skip (at s.labelling.labels t) _ (λ l.
      kept_bind (kept_only_if {P = Of (Stamping n Nothing Nothing ps fr ms new (v ∷ rest))} (eqb l 2) (enqueue G v) s (λ t. enqueue_keeps
      (Stamping n Nothing Nothing ps fr ms new (v ∷ rest)) G v s h) h) (λ s h.
      store s.forest.tops v new _ (λ l. kept (stamp v rest w h)))))

-- ---- a free number is left

still_first : (n new : ℕ) (rest l : List ℕ) → rest ++ (new ∷ []) ≡ n ∷ l → rest ≢ [] → (m : List ℕ) × (rest ≡ n ∷ m)
still_first n new [] l e d = absurd (d refl)
still_first n new (x ∷ rest) l e d = (rest, same e)
  where
    same : {m : List ℕ} → ◌≡◌ {A = List ℕ} (x ∷ m) (n ∷ l) → ◌≡◌ {A = List ℕ} (x ∷ rest) (n ∷ rest)
    same e = cc

-- ---- the whole

pub added : (G : Graph) (base e : ℕ) (s : State) → 2 * G.nodes ≤ missing → base ≢ missing → Firm G.nodes s.forest → MateHolds G s.pairing.mates
    → Agree (λ t. Firm G.nodes t.forest × MateHolds G t.pairing.mates) (listed.add_group G base e s) (add_group G base e s)
unfolding listed.add_group add_group
added G base e s fits known h m = agree_skip (at G.edges e) _ _ (λ x. agree_load s.forest.tops base missing _ _ (λ lb. agree_load s.forest.tops
    x.first missing _ _ (λ lv. agree_load s.forest.tops x.second missing _ _ (λ lw.
    agree_bind (agree_of (traced G s (top_of s.forest base) (top_of s.forest x.first) (x.first, lv, refl))) (λ a ka.
    agree_bind (agree_of (traced G s (top_of s.forest base) (top_of s.forest x.second) (x.second, lw, refl))) (λ b kb.
    agree_bind (agree_of (kept_pop s.forest.free)) (λ f taken.
    agree_bind (ring_made G f.last base _ _ f.rest s fits h.ground taken known
    (each_append (Entry s.forest) (reverse (a.kids ++ (top_of s.forest base ∷ []))) b.kids (each_reverse (Entry s.forest) (a.kids ++
    (top_of s.forest base ∷ [])) (each_append (Entry s.forest) a.kids (top_of s.forest base ∷ []) ka ((base, lb, refl), tt))) kb)) (λ s₁ r₁.
    agree_bind (agree_of (settle_keeps (Ringed G.nodes f.last f.rest s.pairing.mates) f.last (top_of s.forest base) s₁ r₁)) (λ s₂ r.
    agree_bind (nodes_listed G s₂ fits r.ground f.last (λ z. z)) (λ vs k. agree_bind (agree_of (stamp_all (take_in G f.last) (taken_in G f.last) vs s₂
    k.are_inside
    (record {
      ground = r.ground;
      upmost = r.upmost;
      parents_same = refl;
      free_same = r.free_same;
      mates_same = r.mates_same;
      to_come = λ x l w.
          inr (k.are_all x l w);
    }))) (λ s₃ t.
    agree_map (λ u q. ended lb f taken s₂.forest.parents s₃ (stamp_end t) u q)
    (edges_found G f.last s₃.forest s₃.pairing.mates (stamp_end t).ground _ s₃ (λ c s k q. lists_fit s₃ (stamp_end t).ground c s q) (refl, refl)))))))))))))
  where
    lists_fit : (s₃ : State) → Ground G.nodes Nothing Nothing s₃.forest → (c : ℕ) (s : State) → s.forest ≡ s₃.forest
        → listed.leaves_of G s c ≡ leaves_of G s c
    lists_fit s₃ g c s q = list_fits G s fits (subst (Ground G.nodes Nothing Nothing) (sym q) g) c (λ z. z)

    firm : base < length s.forest.tops → (f : Popped) → s.forest.free ≡ f.rest ++ (f.last ∷ []) → (F : Forest)
        → Ground G.nodes Nothing Nothing F → F.free ≡ f.rest → Firm G.nodes F
    firm l f taken F g q = record {
      ground = g;
      first = let (r, e) = still_first G.nodes f.last f.rest h.first.0 (sym taken ∙ h.first.1) (λ z. free_there fits
          (ground_counted fits (omega (arith, l, h.ground.tops_length)) g) (q ∙ z)) in (r, q ∙ e);
    }

    ended : base < length s.forest.tops → (f : Popped) → s.forest.free ≡ f.rest ++ (f.last ∷ []) → (ps : List ℕ) (s₃ : State)
        → Of (Stamped G.nodes Nothing Nothing ps f.rest s.pairing.mates) s₃ → (u : State) → Of (Same s₃.forest s₃.pairing.mates) u
        → Firm G.nodes u.forest × MateHolds G u.pairing.mates
    ended l f taken ps s₃ t u (q, r) =
        (subst (Firm G.nodes) (sym q) (firm l f taken s₃.forest t.ground t.free_same), subst (MateHolds G) (sym (r ∙ t.mates_same)) m)
