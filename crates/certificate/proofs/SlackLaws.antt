-- EDGE and TIGHT: the sum of an edge's slack, and the one pass over the edges.
use Rattle.std.specs.Prelude.{if◌then◌else◌}
use mathlib.Core.Path.{◌≡◌, refl, sym}
use mathlib.Core.Bool.{Bool, true, false, ◌&&◌}
use mathlib.Core.List.{List, [], ◌∷◌}
use Prim.Native.Nat.{ℕ, ◌+◌, ◌*◌, ◌-◌, ◌<◌, ◌≤◌, zero-le}
use native.Mathlib.Omega.{arith}
use lib.IntN.{ℤ, pos, neg_ℤ, nat_abs, ◌+ℤ◌, ◌-ℤ◌, ◌*ℤ◌}
use lib.ListN.{get_or}
use mir.Syntax.{w64}
use mir.Val.{SFits, to_z, of_z}
use mir.ValLaws.{to_z-of_z}
use Rattle.laws.specs.Lists.{all, range}
use Rattle.laws.proofs.Integers.{abs_add, abs_neg, abs_double, fits_near}
use Rattle.laws.proofs.Lists.{each_range, length_range, abs_total}
use Rattle.matching.specs.Graph.{Graph, edge_count, edges_of, first_of, second_of, weight_of}
use Rattle.matching.specs.Certificate.{Certificate, EDGE, TIGHT, contains, inside, slack, group_duals, full_slack, dual_of, meets}
use Rattle.matching.specs.Tests.{edge_test, tight_test, passes, YES, NO, verdict_of}
use Rattle.laws.proofs.Loops.{all_next, all_stop, all_end, range_more, range_none}
use Rattle.certificate.specs.Chains.{common_duals}
use Rattle.certificate.specs.Lists.{Near}

chosen : (t : Bool) (z : ℤ) (k : ℕ) → nat_abs z ≤ k → nat_abs (if t then z else pos 0) ≤ k
chosen true z k h = h
chosen false z k h = zero-le

pub common_near : (n : ℕ) (duals : List ℤ) (parents : List ℕ) (a b : ℕ) → n ≤ 64 → Near n duals
    → nat_abs (common_duals n duals parents a b) ≤ 64 * 4503599627370496
unfolding common_duals dual_of
common_near n duals parents a b h d = omega (
  arith,
  abs_total (λ B. if meets parents n a B && meets parents n b B then get_or duals B (pos 0) else pos 0) 4503599627370496 (range n n)
      (each_range n n (λ B l m. chosen (meets parents n a B && meets parents n b B) (get_or duals B (pos 0)) 4503599627370496 (d.is_small B (omega arith)))),
  length_range n n,
)

-- ---- none of the sums is too large, also of the bits that the code holds

module _ (u x w g : ℤ) (hu : nat_abs u ≤ 4503599627370496) (hx : nat_abs x ≤ 4503599627370496) (hw : nat_abs w ≤ 1_000_000_000)
    (hg : nat_abs g ≤ 64 * 4503599627370496) where
  fit_ends : SFits w64 (u +ℤ x)
  fit_ends = fits_near (u +ℤ x) (omega (arith, abs_add u x))

  fit_weight : SFits w64 (pos 2 *ℤ w)
  fit_weight = fits_near (pos 2 *ℤ w) (omega (arith, abs_double w))

  near_slack : nat_abs (u +ℤ x -ℤ pos 2 *ℤ w) ≤ 3 * 4503599627370496
  near_slack = omega (arith, abs_add u x, abs_double w, abs_neg (pos 2 *ℤ w), abs_add (u +ℤ x) (neg_ℤ (pos 2 *ℤ w)))

  fit_slack : SFits w64 (u +ℤ x -ℤ pos 2 *ℤ w)
  fit_slack = fits_near (u +ℤ x -ℤ pos 2 *ℤ w) (omega (arith, near_slack))

  fit_common : SFits w64 (pos 2 *ℤ g)
  fit_common = fits_near (pos 2 *ℤ g) (omega (arith, abs_double g))

  fit_full : SFits w64 (u +ℤ x -ℤ pos 2 *ℤ w +ℤ pos 2 *ℤ g)
  fit_full = fits_near (u +ℤ x -ℤ pos 2 *ℤ w +ℤ pos 2 *ℤ g) (omega (arith, near_slack, abs_double g, abs_add (u +ℤ x -ℤ pos 2 *ℤ w) (pos 2 *ℤ g)))

  -- the same of the bits that the code holds
  eu : to_z w64 (of_z w64 u) ≡ u
  eu = to_z-of_z w64 u (fits_near u (omega arith))

  ex : to_z w64 (of_z w64 x) ≡ x
  ex = to_z-of_z w64 x (fits_near x (omega arith))

  ew : to_z w64 (of_z w64 w) ≡ w
  ew = to_z-of_z w64 w (fits_near w (omega arith))

  eg : to_z w64 (of_z w64 g) ≡ g
  eg = to_z-of_z w64 g (fits_near g (omega arith))

  pub bits_full : SFits w64
      (to_z w64 (of_z w64 (to_z w64 (of_z w64 (to_z w64 (of_z w64 u) +ℤ to_z w64 (of_z w64 x))) -ℤ to_z w64 (of_z w64 (pos 2 *ℤ to_z w64 (of_z w64 w))))) +ℤ
      to_z w64 (of_z w64 (pos 2 *ℤ to_z w64 (of_z w64 g))))
  bits_full = rw (
    eu,
    ex,
    ew,
    eg,
    to_z-of_z w64 (u +ℤ x) fit_ends,
    to_z-of_z w64 (pos 2 *ℤ w) fit_weight,
    to_z-of_z w64 (u +ℤ x -ℤ pos 2 *ℤ w) fit_slack,
    to_z-of_z w64 (pos 2 *ℤ g) fit_common,
  ) fit_full

  pub bits_result : to_z w64
      (of_z w64 (to_z w64 (of_z w64 (to_z w64 (of_z w64 (to_z w64 (of_z w64 u) +ℤ to_z w64 (of_z w64 x))) -ℤ to_z w64
      (of_z w64 (pos 2 *ℤ to_z w64 (of_z w64 w))))) +ℤ to_z w64 (of_z w64 (pos 2 *ℤ to_z w64 (of_z w64 g))))) ≡ u +ℤ x -ℤ pos 2 *ℤ w +ℤ pos 2 *ℤ g
  bits_result = rw (
    eu,
    ex,
    ew,
    eg,
    to_z-of_z w64 (u +ℤ x) fit_ends,
    to_z-of_z w64 (pos 2 *ℤ w) fit_weight,
    to_z-of_z w64 (u +ℤ x -ℤ pos 2 *ℤ w) fit_slack,
    to_z-of_z w64 (pos 2 *ℤ g) fit_common,
    to_z-of_z w64 (u +ℤ x -ℤ pos 2 *ℤ w +ℤ pos 2 *ℤ g) fit_full,
  )

pub slack_sum : (G : Graph) (C : Certificate) (e : ℕ)
    → full_slack G C e ≡ dual_of C.duals (first_of G e) +ℤ dual_of C.duals (second_of G e) -ℤ pos 2 *ℤ weight_of G e
    +ℤ pos 2 *ℤ common_duals G.nodes C.duals C.parents (first_of G e) (second_of G e)
unfolding full_slack slack group_duals inside contains common_duals
slack_sum G C e = refl

-- ---- the one pass

-- what is left to test from edge e on, where the edges before it are tight or not
pub record Passing (G : Graph) (C : Certificate) (e : ℕ) (tight : Bool) : Type 0 where
  pub edges : all (edge_test G C) (range e (edge_count G - e)) ≡ all (edge_test G C) (edges_of G)
  pub tights : (tight && all (tight_test G C) (range e (edge_count G - e))) ≡ all (tight_test G C) (edges_of G)

one_more : (tight t rest whole : Bool) → (tight && (t && rest)) ≡ whole → ((tight && t) && rest) ≡ whole
one_more true t rest whole w = w
one_more false t rest whole w = w

module _ (G : Graph) (C : Certificate) where
  pub passing_start : Passing G C 0 true
  passing_start = let e : edge_count G - 0 ≡ edge_count G = omega arith in record { edges = rw e; tights = rw e }

  module _ (e : ℕ) (tight : Bool) (p : Passing G C e tight) where
    pub passing_low : (flag : Bool) → e < edge_count G → edge_test G C e ≡ false → verdict_of G flag C (EDGE ∷ TIGHT ∷ []) ≡ NO EDGE
    unfolding verdict_of passes
    passing_low flag h l = rw (← all_stop (edge_test G C) e (edge_count G) h l p.edges)

    pub passing_next : (t : Bool) → e < edge_count G → edge_test G C e ≡ true → t ≡ tight_test G C e → Passing G C (e + 1) (tight && t)
    unfolding all
    passing_next t h l f = record {
      edges = all_next (edge_test G C) e (edge_count G) h l p.edges;
      tights = rw f (one_more tight (tight_test G C e) _ _ (rw (range_more e (edge_count G) h) at p.tights));
    }

    module _ (flag : Bool) (h : edge_count G ≤ e) where
      edges_hold : all (edge_test G C) (edges_of G) ≡ true
      edges_hold = sym (all_end (edge_test G C) e (edge_count G) h p.edges)

      tights_are : (tight && true) ≡ all (tight_test G C) (edges_of G)
      unfolding all
      tights_are = rw (range_none e (edge_count G) h) at p.tights

      pub passing_loose : tight ≡ false → verdict_of G flag C (EDGE ∷ TIGHT ∷ []) ≡ NO TIGHT
      unfolding verdict_of passes
      passing_loose l = rw (edges_hold, ← tights_are, l)

      pub passing_fit : tight ≡ true → verdict_of G flag C (EDGE ∷ TIGHT ∷ []) ≡ YES
      unfolding verdict_of passes
      passing_fit l = rw (edges_hold, ← tights_are, l)

pub ruleset slack_pass = (passing_start, passing_low, passing_next, passing_loose, passing_fit)
