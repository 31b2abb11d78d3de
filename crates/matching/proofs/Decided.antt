-- Each test of `specs/Tests.antt` decides its condition; the verdict says what holds, and no other verdict does (`verdict_exact`); and a
-- verdict of YES on a well-formed graph makes the mates' matching optimal (`yes_optimal`).
use Rattle.std.specs.Prelude.{if◌then◌else◌}
use mathlib.Core.Path.{◌≡◌, refl, ap, subst}
use mathlib.Core.Bool.{Bool, true, false, not}
use mathlib.Core.Logic.{◌⊎◌, inl, inr, ⊎_elim, ◌↔◌}
use mathlib.Core.List.{List, [], ◌∷◌}
use Prim.Native.Nat.{ℕ, zero, suc, ◌*◌, ◌-◌, ◌/◌, ◌%◌, ◌≤◌, zero-le}
use native.Mathlib.Omega.{arith}
use lib.IntN.{ℤ, pos, nat_abs, ◌+ℤ◌}
use lib.Signed.{◌<ℤ◌}
use Rattle.laws.specs.Lists.{Each}
use Rattle.laws.proofs.Decides.{Decides, said, both, either, given, equal, at_most, less, at_mostℤ, lessℤ, nought, itself, below, in_range, passed, failed}
use Rattle.laws.proofs.Lists.{each}
use Rattle.matching.specs.Graph.{Graph, edge_count, missing, beside, node_at, WellFormed}
use Rattle.matching.specs.Matching.{Optimal}
use Rattle.matching.specs.Certificate.{Certificate, mate_of, dual_of, parent_of, max_dual, matched, pairs, climb, size, within, full_slack}
use Rattle.matching.specs.Certificate.{offset, NamedBack, Climbs, DualFits, Full, Condition, MATE, PARENT, DUAL, EDGE, TIGHT, FREE, FULL}
use Rattle.matching.specs.Certificate.{conditions, MateHolds, Holds, Passes}
use Rattle.matching.specs.Tests.{mate_test, climb_ends, parent_test, dual_test, edge_test, tight_test, free_test, full_test, mates_pass, passes}
use Rattle.matching.specs.Tests.{Verdict, YES, NO, verdict_of, verdict, FirstFailing, Says}
use Rattle.matching.proofs.Duality.{certified_optimal}

-- ---- at one number

mate_decided : (G : Graph) (mates : List ℕ) (v : ℕ) → Decides ((mate_of mates v ≡ missing) ⊎ NamedBack G mates v) (mate_test G mates v)
unfolding mate_test
mate_decided G mates v =
    let m = mate_of mates v in
    either (equal m missing)
    (said
    (λ h. record { is_end = h.0; is_mine = h.1.0; is_mutual = h.1.1 })
    (λ h. (h.is_end, (h.is_mine, h.is_mutual)))
    (both (less m (2 * edge_count G)) (both (equal (node_at G (beside m)) v) (equal (mate_of mates (node_at G m)) (beside m)))))

Top : (parents : List ℕ) → ℕ → ℕ → Type 0
Top parents k i = (j : ℕ) × (j ≤ k) × (parent_of parents (climb parents j i) ≡ missing)

top_here : (parents : List ℕ) (i : ℕ) → Top parents 0 i → parent_of parents i ≡ missing
unfolding Top climb
top_here parents i (zero, l, e) = e
top_here parents i (suc j, l, e) = let no_way : ⊥ = omega arith in absurd no_way

top_or_above : (parents : List ℕ) (k i : ℕ) → Top parents (suc k) i → (parent_of parents i ≡ missing) ⊎ Top parents k (parent_of parents i)
unfolding Top climb
top_or_above parents k i (zero, l, e) = inl e
top_or_above parents k i (suc j, l, e) = inr (j, omega arith, e)

climb_decided : (parents : List ℕ) (k i : ℕ) → Decides (Top parents k i) (climb_ends parents k i)
unfolding Top climb climb_ends
climb_decided parents zero i = said (λ e. (0, zero-le, e)) (top_here parents i) (equal (parent_of parents i) missing)
climb_decided parents (suc k) i = said
    (λ h. ⊎_elim (λ e. (0, zero-le, e)) (λ t. (suc t.0, omega (arith, t.1), t.2)) h)
    (top_or_above parents k i)
    (either (equal (parent_of parents i) missing) (climb_decided parents k (parent_of parents i)))

parent_decided : (G : Graph) (parents : List ℕ) (i : ℕ) → Decides (Climbs G parents i) (parent_test G parents i)
unfolding parent_test Top
parent_decided G parents i =
    let p = parent_of parents i in
    said
    (λ h. record { is_group = h.0; to_the_top = h.1 })
    (λ h. (h.is_group, h.to_the_top))
    (both (either (equal p missing) (both (at_most G.nodes p) (less p (2 * G.nodes)))) (climb_decided parents G.nodes i))

dual_decided : (G : Graph) (flag : Bool) (duals : List ℤ) (i : ℕ) → Decides (DualFits G flag duals i) (dual_test G flag duals i)
unfolding dual_test
dual_decided G flag duals i =
    let d = dual_of duals i in
    said
    (λ h. record { is_small = h.0; of_group = h.1.0; of_node = h.1.1 })
    (λ h. (h.is_small, (h.of_group, h.of_node)))
    (both (at_most (nat_abs d) max_dual)
    (both (given (at_most G.nodes i) (at_mostℤ (pos 0) d)) (given (itself (not flag)) (at_mostℤ (pos 0) d))))

full_decided : (G : Graph) (C : Certificate) (B : ℕ) → Decides (pos 0 <ℤ dual_of C.duals B → Full G C B) (full_test G C B)
unfolding full_test
full_decided G C B =
    let k = size G C.parents B in
    given (lessℤ (pos 0) (dual_of C.duals B))
    (said
    (λ h. record { is_odd = h.0; is_filled = h.1 })
    (λ h. (h.is_odd, h.is_filled))
    (both (equal (k % 2) 1) (equal (within G C.parents B (pairs G C.mates)) ((k - 1) / 2))))

-- ---- over all

pub mates_decided : (G : Graph) (mates : List ℕ) → Decides (MateHolds G mates) (mates_pass G mates)
unfolding mates_pass
mates_decided G mates = below (mate_decided G mates) G.nodes

module _ (G : Graph) (flag : Bool) (C : Certificate) where
  pub decided : (c : Condition) → Decides (Holds G flag C c) (passes G flag C c)
  unfolding passes edge_test tight_test free_test
  decided MATE = mates_decided G C.mates
  decided PARENT = below (parent_decided G C.parents) (2 * G.nodes)
  decided DUAL = below (dual_decided G flag C.duals) (2 * G.nodes)
  decided EDGE = below (λ e. at_mostℤ (pos 0) (full_slack G C e)) (edge_count G)
  decided TIGHT = below (λ e. given (itself (matched G C.mates e)) (nought (full_slack G C e))) (edge_count G)
  decided FREE =
      below (λ v. given (equal (mate_of C.mates v) missing) (nought (dual_of C.duals v +ℤ offset G flag C.duals))) G.nodes
  decided FULL =
      said (λ f B l h. f B l (omega arith)) (λ f B l h. f B l (omega arith)) (in_range (full_decided G C) G.nodes G.nodes)

  -- ---- the verdict says what holds, and no other does

  -- what the verdict on a part of the conditions says
  abbrev SaysOf : List Condition → Verdict → Type 0
  SaysOf cs YES = Each (Holds G flag C) cs
  SaysOf cs (NO k) = FirstFailing G flag C cs k

  holds_first : (c : Condition) (cs : List Condition) (v : Verdict) → Holds G flag C c → SaysOf cs v → SaysOf (c ∷ cs) v
  holds_first c cs YES h r = (h, r)
  holds_first c cs (NO k) h r = inr (h, r)

  says : (cs : List Condition) → SaysOf cs (verdict_of G flag C cs)
  unfolding verdict_of
  says [] = tt
  says (c ∷ cs) = go (passes G flag C c) (decided c) (says cs)
    where
      go : (t : Bool) → Decides (Holds G flag C c) t → SaysOf cs (verdict_of G flag C cs) → SaysOf (c ∷ cs) (if t then verdict_of G flag C cs else NO c)
      go true d r = holds_first c cs (verdict_of G flag C cs) (d.sound tt) r
      go false d r = inl (refl, λ h. d.complete h)

  yes_only : (cs : List Condition) → Each (Holds G flag C) cs → verdict_of G flag C cs ≡ YES
  unfolding verdict_of
  yes_only [] h = refl
  yes_only (c ∷ cs) h = rw (passed (decided c) h.0) (yes_only cs h.1)

  no_only : (cs : List Condition) (k : Condition) → FirstFailing G flag C cs k → verdict_of G flag C cs ≡ NO k
  unfolding verdict_of
  no_only [] k f = absurd f
  no_only (c ∷ cs) k (inl f) = rw (failed (decided c) f.1) (ap NO f.0)
  no_only (c ∷ cs) k (inr f) = rw (passed (decided c) f.0) (no_only cs k f.1)

  of_each : Each (Holds G flag C) conditions → Passes G flag C
  of_each h MATE = h.0
  of_each h PARENT = h.1.0
  of_each h DUAL = h.1.1.0
  of_each h EDGE = h.1.1.1.0
  of_each h TIGHT = h.1.1.1.1.0
  of_each h FREE = h.1.1.1.1.1.0
  of_each h FULL = h.1.1.1.1.1.1.0

  sound : (v : Verdict) → SaysOf conditions v → Says G flag C v
  sound YES h = of_each h
  sound (NO k) h = h

  no_other : (v : Verdict) → Says G flag C v → verdict G flag C ≡ v
  unfolding verdict
  no_other YES c = yes_only conditions (each c conditions)
  no_other (NO k) f = no_only conditions k f

  pub verdict_says : Says G flag C (verdict G flag C)
  unfolding verdict
  verdict_says = sound (verdict_of G flag C conditions) (says conditions)

  pub verdict_exact : (v : Verdict) → (verdict G flag C ≡ v) ↔ Says G flag C v
  verdict_exact v = (λ q. subst (Says G flag C) q verdict_says, no_other v)

-- ---- YES is enough

pub yes_optimal : (G : Graph) → WellFormed G → (flag : Bool) (C : Certificate) → verdict G flag C ≡ YES → Optimal G flag (pairs G C.mates)
yes_optimal G w flag C q = certified_optimal G w flag C ((verdict_exact G flag C YES).0 q)
