-- The best edges of a new group (`best_edges`): the forest and the mates stay as they were; its links lead to different entries of the
-- outermost list, so that there are no more of them than nodes; and the limit on the leaf lists of its children is never met.
use Rattle.std.specs.Prelude.{if◌then◌else◌}
use mathlib.Core.Path.{◌≡◌, refl, sym, ap, subst}
use mathlib.Core.Bool.{Bool, true, false, not}
use mathlib.Core.Logic.{◌⊎◌, inl, inr, ⊎_elim}
use mathlib.Core.List.{List, [], ◌∷◌, ◌++◌, map}
use Prim.Native.Nat.{ℕ, suc, ◌/◌, ◌<◌, ◌≤◌}
use native.Mathlib.Omega.{arith}
use lib.Dec.{T, eqb, leb, eqb→eq, le→leb}
use lib.Ieee.Fits.{eq→eqb}
use lib.IntN.{ℤ}
use lib.ListN.{length}
use Rattle.laws.specs.Lists.{Each}
use Rattle.laws.specs.Times.{times}
use Rattle.laws.specs.Run.{ok, for_each, at}
use Rattle.laws.proofs.Lists.{each}
use Rattle.laws.proofs.Times.{same_or_not, bit_le, bit_other, times_nil, times_cons, times_snoc, each_append, each_times}
use Rattle.laws.proofs.Kept.{Kept, kept, kept_bind, kept_map, kept_only_if}
use Rattle.laws.proofs.Keeping.{skip, either_way, Agree, agree, agree_of, agree_bind, agree_skip, agree_skip_same, agree_load, agree_where, agree_each}
use Rattle.laws.proofs.Keeping.{agree_tested}
use Rattle.matching.specs.Graph.{Graph, missing}
use Rattle.steps.specs.Ends.{tighter, far_ends}
use Rattle.steps.specs.State.{Forest, State}
use Rattle.steps.specs.Leaves.{leaves_of}
use Rattle.steps.specs.Add.{Link, insert_link, consider_to, consider, consider_at, consider_child, Gathered, gather, tightest, best_edges}
use Rattle.steps.specs.Listed as listed
use Rattle.steps.specs.Standing.{top_of}
use Rattle.steps.proofs.Ground.{Ground, Nothing}
use Rattle.steps.proofs.Frames.{Of, list_keeps, best_keeps}
use Rattle.steps.proofs.Entries.{Entry, few_entries}
use Rattle.steps.proofs.Relabelling.{Same}

-- where the links lead
abbrev towards : List Link → List ℕ
towards ls = map (λ (x : Link). x.toward) ls

towards_length : (ls : List Link) → length (towards ls) ≡ length ls
towards_length [] = refl
towards_length (x ∷ ls) = ap suc (towards_length ls)

-- a link to j is put in place of one to j, or on the end where there is none
Put : (j : ℕ) → (before after : List Link) → Type 0
Put j ls ks = (towards ks ≡ towards ls) ⊎ ((times j (towards ls) ≡ 0) × (towards ks ≡ towards ls ++ (j ∷ [])))

link_put : (G : Graph) (duals : List ℤ) (j e : ℕ) (ls : List Link) → Kept (Put j ls) (insert_link G duals j e ls)
unfolding insert_link Put
link_put G duals j e [] = kept (inr (times_nil j, refl))
link_put G duals j e (x ∷ ls) = either_way (eqb x.toward j) _ _
    (λ t. skip (tighter G duals e x.edge) _ (λ less. replaced less (eqb→eq x.toward j t)))
    (λ f. kept_bind (link_put G duals j e ls) (λ ks h. kept (further ks h f)))
  where
    replaced : (less : Bool) → x.toward ≡ j → Kept (Put j (x ∷ ls)) (ok (if less then record { toward = j; edge = e } ∷ ls else x ∷ ls))
    replaced true q = kept (inl (ap {B = List ℕ} (λ z. z ∷ towards ls) (sym q)))
    replaced false q = kept (inl refl)

    further : (ks : List Link) → Put j ls ks → (T (eqb x.toward j) → ⊥) → Put j (x ∷ ls) (x ∷ ks)
    further ks h f = ⊎_elim
        (λ q. inl (ap {B = List ℕ} (λ l. x.toward ∷ l) q))
        (λ q. inr (omega (arith, times_cons j x.toward (towards ls), bit_other x.toward j (λ e. f (eq→eqb e)), q.0), ap {B = List ℕ} (λ l. x.toward ∷ l) q.1))
        h

module _ (G : Graph) (new : ℕ) (F : Forest) (ms : List ℕ) (g : Ground G.nodes Nothing Nothing F) where
  abbrev As : State → Type 0
  As = Of (Same F ms)

  -- the links lead to entries, to each once
  record Linked (ls : List Link) : Type 0 where
    are_entries : Each (Entry F) (towards ls)
    none_twice : (j : ℕ) → times j (towards ls) ≤ 1

  few_links : (ls : List Link) → Linked ls → length ls ≤ G.nodes
  few_links ls h = omega (arith, towards_length ls, few_entries g (towards ls) h.are_entries h.none_twice)

  linked_on : (j : ℕ) (ls ks : List Link) → Entry F j → Linked ls → Put j ls ks → Linked ks
  unfolding Put
  linked_on j ls ks n h p = ⊎_elim
      (λ q. record { are_entries = rw q h.are_entries; none_twice = λ x. rw q (h.none_twice x) })
      (λ q. record {
        are_entries = rw q.1 (each_append (Entry F) (towards ls) (j ∷ []) h.are_entries (n, tt));
        none_twice = λ x. rw q.1 (once x q.0);
      })
      p
    where
      once : (x : ℕ) → times j (towards ls) ≡ 0 → times x (towards ls ++ (j ∷ [])) ≤ 1
      once x z = ⊎_elim
          (λ e. omega (arith, times_snoc x j (towards ls), bit_le (eqb j x), ap (λ y. times y (towards ls)) e, z))
          (λ d. omega (arith, times_snoc x j (towards ls), bit_other j x d, h.none_twice x))
          (same_or_not j x)

  -- ---- one edge

  considered_to : (s : State) (j e : ℕ) (ls : List Link) → Entry F j → Linked ls → Agree Linked (listed.consider_to G s j e ls) (consider_to G s j e ls)
  unfolding listed.consider_to consider_to
  considered_to s j e ls n h =
      agree_skip (at s.labelling.labels j) _ _ (λ l. agree_tested (λ ks. leb (length ks) G.nodes) (kept_only_if {P = Linked} (eqb l 1)
      (insert_link G s.pairing.duals j e) ls (λ t. kept_map (λ ks p. linked_on j ls ks n h p) (link_put G s.pairing.duals j e ls)) h)
      (λ ks k. le→leb (length ks) G.nodes (few_links ks k)))

  module _ (s : State) (same : s.forest ≡ F) where
    considered : (e : ℕ) (ls : List Link) → Linked ls → Agree Linked (listed.consider G s new e ls) (consider G s new e ls)
    unfolding listed.consider consider
    considered e ls h =
        agree_skip (at G.edges e) _ _ (λ x. agree_skip (at s.forest.tops x.second) _ _ (λ t. agree_load s.forest.tops
        (if eqb t new then x.first else x.second) missing _ _ (λ l.
        agree_where (not (eqb (top_of s.forest (if eqb t new then x.first else x.second)) new)) _ _ ls
        (λ u. considered_to s _ e ls (there (if eqb t new then x.first else x.second) l) h) h)))
      where
        there : (v : ℕ) → v < length s.forest.tops → Entry F (top_of s.forest v)
        there v l = (v, subst (λ (F : Forest). v < length F.tops) same l, ap (λ F. top_of F v) same)

    considered_at : (v : ℕ) (ls : List Link) → Linked ls → Agree Linked (listed.consider_at G s new v ls) (consider_at G s new v ls)
    unfolding listed.consider_at consider_at
    considered_at v ls h = agree_each {Q = λ p. Unit {0}} (λ p ls u h. considered (p / 2) ls h) (far_ends G v) (each (λ p. tt) (far_ends G v)) h

    considered_child : (c : ℕ) (own : List ℕ) (ls : List Link) → listed.leaves_of G s c ≡ leaves_of G s c → Linked ls
        → Agree Linked (listed.consider_child G s new c own ls) (consider_child G s new c own ls)
    unfolding listed.consider_child consider_child
    considered_child c [] ls fit h = agree_skip_same fit _ _ (λ vs. agree_each {Q = λ v. Unit {0}} (λ v ls u h. considered_at v ls h) vs
        (each (λ v. tt) vs) h)
    considered_child c (e ∷ es) ls fit h = agree_each {Q = λ e. Unit {0}} (λ e ls u h. considered e ls h) (e ∷ es) (each (λ e. tt) (e ∷ es)) h

  -- ---- all children

  abbrev GatheredSoFar : Gathered → Type 0
  GatheredSoFar k = As k.state × Linked k.links

  child_gathered : (c : ℕ) (k : Gathered) → listed.leaves_of G k.state c ≡ leaves_of G k.state c → GatheredSoFar k
      → Agree GatheredSoFar (listed.gather G new c k) (gather G new c k)
  unfolding listed.gather gather
  child_gathered c k fit (h, i) =
      agree_skip (at k.state.labelling.best_lists c) _ _ (λ own. agree_bind (considered_child k.state h.0 c own k.links fit i) (λ ls i.
      agree_bind (agree_of (list_keeps (Same F ms) c [] k.state h)) (λ s h. agree_bind (agree_of (best_keeps (Same F ms) c missing s h)) (λ s h.
      agree (h, i)))))

  pub edges_found : (kids : List ℕ) (s : State)
      → ((c : ℕ) (s : State) → 0 < times c kids → s.forest ≡ F → listed.leaves_of G s c ≡ leaves_of G s c)
      → As s → Agree As (listed.best_edges G new kids s) (best_edges G new kids s)
  unfolding listed.best_edges best_edges
  edges_found kids s short h =
      agree_bind (agree_each {Q = λ c. 0 < times c kids} {I = GatheredSoFar} (λ c k m h. child_gathered c k (short c k.state m h.0.0) h) kids
      (each_times (λ c. 0 < times c kids) kids (λ c m. m)) (h, record { are_entries = tt; none_twice = λ j. omega (arith, times_nil j) })) (λ k h.
      agree_bind (agree_of (list_keeps (Same F ms) new (map (λ (x : Link). x.edge) k.links) k.state h.0)) (λ s h.
      agree_skip (for_each (tightest G s.pairing.duals) (map (λ (x : Link). x.edge) k.links) missing) _ _ (λ best. agree_of
      (best_keeps (Same F ms) new best s h))))
