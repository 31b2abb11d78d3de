-- The adding of a group is its parts: a ring with more children than nodes is refused before a number is taken.
use Rattle.std.proofs.Common.{◌≡◌, ◌<◌, ◌≤◌, ◌+◌, ◌*◌, [], ◌∷◌, ◌++◌, reverse, map, ℕ, Bool, true, false, not, ◌&&◌, ltb, leb, length, refl, arith}
use Rattle.std.proofs.Common.{length-append}
use Rattle.std.proofs.lemmas.List.{length-reverse}
use borrow.Author.Tests.{lt-leb}
use lib.Dec.{T, nltb→le}
use Rattle.laws.specs.Lists.{repeats}
use Rattle.laws.specs.Run.{Run, ok, fault, ◌>>=◌, must, and_then, for_each, at, pop}
use Rattle.laws.proofs.Runs.{then_same, then_fault}
use Rattle.matching.specs.Graph.{Graph, beside, is_odd}
use Rattle.steps.specs.State.{State}
use Rattle.steps.specs.Stores.{with_free}
use Rattle.steps.specs.Leaves.{leaves_of}
use Rattle.steps.specs.Add.{Trace, trace, fit_children, ring_up, settle, take_in, best_edges, add_group}
use Rattle.state.specs.Free.{take_last}
use Rattle.grouping.specs.Parts.{meeting_of, Ring, ring_of, take_nodes, added_of}

-- what follows a run that is made of parts
parts : {A B C : Type 0} (r : Run A) (f : A → Run C) (g : A → Run B) (k : B → Run C) → ((a : A) → f a ≡ and_then (g a) k)
    → and_then r f ≡ and_then (and_then r g) k
parts (ok a) f g k h = h a
parts fault f g k h = refl

-- a ring that is too long fits none
no_fit : (p q t r u : Bool) → t ≡ false → ((p && q && t && r) && u) ≡ false
no_fit true true t r u e = rw e refl
no_fit true false t r u e = refl
no_fit false q t r u e = refl

module _ (G : Graph) (base e : ℕ) (s : State) where
  abbrev ring : (first : ℕ) → (a b : Trace) → Ring
  ring first a b = record { kids = reverse (a.kids ++ (first ∷ [])) ++ b.kids; ends = reverse a.ends ++ (2 * e ∷ []) ++ map beside b.ends }

  -- what the definition does with the ring, and the same in parts
  abbrev defined : (first : ℕ) → Ring → Run State
  defined first r =
      pop s.forest.free >>= λ f. ring_up G f.last base r.kids r.ends (with_free f.rest s) >>= λ s. settle f.last first s
      >>= λ s. leaves_of G s f.last >>= λ vs. for_each (take_in G f.last) vs s >>= λ s. best_edges G f.last r.kids s

  abbrev parted : (first : ℕ) → Ring → Run State
  parted first r =
      take_last s >>= λ t. ring_up G t.new base r.kids r.ends t.state >>= λ s. settle t.new first s
      >>= λ s. take_nodes G t.new s >>= λ s. best_edges G t.new r.kids s

  same_rest : (first : ℕ) (r : Ring) → defined first r ≡ parted first r
  unfolding take_last take_nodes
  same_rest first r = parts (pop s.forest.free) _ _ _
      (λ f. then_same (ring_up G f.last base r.kids r.ends (with_free f.rest s)) _ _
      (λ s. then_same (settle f.last first s) _ _
      (λ s. parts (leaves_of G s f.last) _ _ _ (λ vs. refl))))

  long : (new : ℕ) (r : Ring) (s : State) → G.nodes < length r.kids → ring_up G new base r.kids r.ends s ≡ fault
  unfolding ring_up fit_children
  long new r s h = rw (no_fit (is_odd (length r.kids)) (leb 3 (length r.kids)) (leb (length r.kids) G.nodes) (not (repeats r.kids))
      (leb G.nodes new) (lt-leb (length r.kids) G.nodes h))

  too_long : (first : ℕ) (r : Ring) → G.nodes < length r.kids → defined first r ≡ fault
  too_long first r h = then_fault (pop s.forest.free) _ (λ f. rw (long f.last r (with_free f.rest s) h))

  ring_length : (first : ℕ) (a b : Trace) → length (ring first a b).kids ≡ length a.kids + 1 + length b.kids
  ring_length first a b =
      rw (length-append (reverse (a.kids ++ (first ∷ []))) b.kids, length-reverse (a.kids ++ (first ∷ [])), length-append a.kids (first ∷ [])) refl

  tested : (first : ℕ) (a b : Trace)
      → defined first (ring first a b) ≡ and_then (must (ltb (length a.kids + length b.kids) G.nodes) >>= λ _. ok (ring first a b)) (parted first)
  tested first a b = go (ltb (length a.kids + length b.kids) G.nodes) (nltb→le (length a.kids + length b.kids) G.nodes)
    where
      go : (t : Bool) → (T (not t) → G.nodes ≤ length a.kids + length b.kids)
          → defined first (ring first a b) ≡ and_then (must t >>= λ _. ok (ring first a b)) (parted first)
      go true h = same_rest first (ring first a b)
      go false h = too_long first (ring first a b) (omega (arith, h tt, ring_length first a b))

  by_ring : (first v w : ℕ) → (trace G s first v >>= λ a. trace G s first w >>= λ b. defined first (ring first a b))
      ≡ and_then (ring_of G s first v w e) (parted first)
  unfolding ring_of
  by_ring first v w = parts (trace G s first v) _ _ _ (λ a. parts (trace G s first w) _ _ _ (λ b. tested first a b))

  pub adds : add_group G base e s ≡ added_of G base e s
  unfolding add_group added_of meeting_of
  adds = parts (at G.edges e) _ _ _
      (λ x. parts (at s.forest.tops base) _ _ _
      (λ first. parts (at s.forest.tops x.first) _ _ _
      (λ v. parts (at s.forest.tops x.second) _ _ _ (λ w. by_ring first v w))))

pub ruleset adding = (adds)
