-- From what each function answers to the verdict, and from the verdict to the check call.
use Rattle.std.specs.Prelude.{if◌then◌else◌}
use mathlib.Core.Path.{◌≡◌, refl, sym, subst, ◌∙◌}
use mathlib.Core.Bool.{Bool, true, false}
use mathlib.Core.List.{List, [], ◌∷◌}
use Prim.Native.Nat.{ℕ, ◌*◌, ◌<◌}
use native.Mathlib.Omega.{arith}
use lib.Dec.{T, eqb, eqb→eq}
use lib.Ieee.Fits.{and_l, and_r}
use lib.IntN.{ℤ, pos}
use lib.ListN.{length, get_or}
use Rattle.laws.specs.Lists.{all, range}
use Rattle.laws.proofs.Lists.{each_at}
use Rattle.matching.specs.Graph.{Graph, Edge, edge, edges_from, groups_of}
use Rattle.matching.specs.Certificate.{Certificate, dual_of, offset, Condition, MATE, PARENT, DUAL, EDGE, TIGHT, FREE, FULL}
use Rattle.matching.specs.Tests.{mate_test, climb_ends, parent_test, dual_test, free_test, full_test, mates_pass, passes, Verdict, YES, NO, verdict, verdict_of}
use Rattle.matching.proofs.Decided.{decided}
use Rattle.steps.specs.Refusals.{Refusal, Intake, fine, refused, Room, intake}
use Rattle.steps.specs.Check.{JUDGED, DECLINED, room_of, read_of, check_after, check}
use Rattle.steps.proofs.Accepted.{AcceptedEdge, Accepted, accepted}
use Rattle.certificate.specs.Chains.{Climbing}
use Rattle.certificate.specs.Lists.{Known, Weighed, Near, lent, bare, certificate_of, same_length, unequal, intake_lists, check_lists, named_at}
use Rattle.laws.proofs.Loops.{all_same, of_true, is_true}
use Rattle.certificate.proofs.ListLaws.{parents_all, all_named, all_climb}
use Rattle.certificate.proofs.IntakeLaws.{edges_length, edge_at}

-- ---- the others

module _ (n : ℕ) (first second : List ℕ) (weight : List ℤ) (flag : Bool) (mates : List ℕ) (duals : List ℤ) (parents : List ℕ) where
  parent_same : (i : ℕ) → parent_test (bare n) parents i ≡ parent_test (lent n first second weight) parents i
  unfolding parent_test
  parent_same i = refl

  pub parents_are : all (parent_test (bare n) parents) (range 0 (2 * n)) ≡ passes (lent n first second weight) flag (certificate_of mates duals parents) PARENT
  unfolding passes
  parents_are = all_same (parent_test (bare n) parents) (parent_test (lent n first second weight) parents) 0 (2 * n) (λ i l m. parent_same i)

  dual_same : (i : ℕ) → dual_test (bare n) flag duals i ≡ dual_test (lent n first second weight) flag duals i
  unfolding dual_test
  dual_same i = refl

  pub duals_are : all (dual_test (bare n) flag duals) (range 0 (2 * n)) ≡ passes (lent n first second weight) flag (certificate_of mates duals parents) DUAL
  unfolding passes
  duals_are = all_same (dual_test (bare n) flag duals) (dual_test (lent n first second weight) flag duals) 0 (2 * n) (λ i l m. dual_same i)

  free_same : (v : ℕ) → free_test (bare n) flag (certificate_of mates duals []) v
      ≡ free_test (lent n first second weight) flag (certificate_of mates duals parents) v
  unfolding free_test offset
  free_same v = refl

  pub free_are : all (free_test (bare n) flag (certificate_of mates duals [])) (range 0 n)
      ≡ passes (lent n first second weight) flag (certificate_of mates duals parents) FREE
  unfolding passes
  free_are = all_same (free_test (bare n) flag (certificate_of mates duals []))
      (free_test (lent n first second weight) flag (certificate_of mates duals parents)) 0 n (λ i l m. free_same i)

  -- DUAL bounds the duals
  pub duals_near : length duals ≡ 2 * n → passes (lent n first second weight) flag (certificate_of mates duals parents) DUAL ≡ true → Near n duals
  unfolding dual_of
  duals_near l h = record {
    as_many = l;
    is_small = λ i m. ((decided (lent n first second weight) flag (certificate_of mates duals parents) DUAL).sound (of_true h) i m).is_small;
  }

-- PARENT bounds the climbs
pub climbing_of : (n : ℕ) (parents : List ℕ) → length parents ≡ 2 * n → true ≡ all (parent_test (bare n) parents) (range 0 (2 * n)) → Climbing n parents
climbing_of n parents l h =
    let e = sym (h ∙ parents_all n parents l) in
    let t = of_true e in
    let a = is_true (and_l (all (named_at n parents) (range 0 (2 * n))) (all (climb_ends parents n) (range 0 (2 * n))) t) in
    let b = is_true (and_r (all (named_at n parents) (range 0 (2 * n))) (all (climb_ends parents n) (range 0 (2 * n))) t) in
    all_climb n parents l (all_named n parents l a) b

-- ---- the verdict, condition by condition

module _ (n : ℕ) (first second : List ℕ) (weight : List ℤ) (flag : Bool) (mates : List ℕ) (duals : List ℤ) (parents : List ℕ) where
  abbrev G : Graph
  G = lent n first second weight

  abbrev C : Certificate
  C = certificate_of mates duals parents

  module _ (slacks : verdict_of G flag C (EDGE ∷ TIGHT ∷ []) ≡ YES) where
    edge_holds : passes G flag C EDGE ≡ true
    unfolding verdict_of
    edge_holds = go (passes G flag C EDGE) (passes G flag C TIGHT) slacks
      where
        go : (a b : Bool) → (if a then (if b then YES else NO TIGHT) else NO EDGE) ≡ YES → a ≡ true
        go true b h = refl
        go false b h = cc

    tight_holds : passes G flag C TIGHT ≡ true
    unfolding verdict_of
    tight_holds = go (passes G flag C EDGE) (passes G flag C TIGHT) slacks
      where
        go : (a b : Bool) → (if a then (if b then YES else NO TIGHT) else NO EDGE) ≡ YES → b ≡ true
        go true true h = refl
        go true false h = cc
        go false b h = cc

    pub free_fails : all (free_test (bare n) flag (certificate_of mates duals [])) (range 0 n) ≡ false → verdict_of G flag C (EDGE ∷ TIGHT ∷ FREE ∷ FULL ∷ [])
        ≡ NO FREE
    unfolding verdict_of
    free_fails h = rw (edge_holds, tight_holds, sym (free_are n first second weight flag mates duals parents) ∙ h)

    module _ (free : all (free_test (bare n) flag (certificate_of mates duals [])) (range 0 n) ≡ true) where
      pub full_fails : all (full_test G C) (groups_of G) ≡ false → verdict_of G flag C (EDGE ∷ TIGHT ∷ FREE ∷ FULL ∷ []) ≡ NO FULL
      unfolding verdict_of passes
      full_fails h = rw (edge_holds, tight_holds, sym (free_are n first second weight flag mates duals parents) ∙ free, h)

      pub full_holds : all (full_test G C) (groups_of G) ≡ true → verdict_of G flag C (EDGE ∷ TIGHT ∷ FREE ∷ FULL ∷ []) ≡ YES
      unfolding verdict_of passes
      full_holds h = rw (edge_holds, tight_holds, sym (free_are n first second weight flag mates duals parents) ∙ free, h)

  pub slack_fails : (c : Condition) → verdict_of G flag C (EDGE ∷ TIGHT ∷ []) ≡ NO c → verdict_of G flag C (EDGE ∷ TIGHT ∷ FREE ∷ FULL ∷ []) ≡ NO c
  unfolding verdict_of
  slack_fails c h = go (passes G flag C EDGE) (passes G flag C TIGHT) (if passes G flag C FREE then (if passes G flag C FULL then YES else NO FULL) else NO
      FREE) h
    where
      go : (a b : Bool) (v : Verdict) → (if a then (if b then YES else NO TIGHT) else NO EDGE) ≡ NO c → (if a then (if b then v else NO TIGHT) else NO EDGE)
          ≡ NO c
      go true true v h = cc
      go true false v h = h
      go false b v h = h

  pub mate_fails : all (mate_test G mates) (range 0 n) ≡ false → verdict G flag C ≡ NO MATE
  unfolding verdict verdict_of passes mates_pass
  mate_fails h = rw h

  module _ (m : all (mate_test G mates) (range 0 n) ≡ true) where
    mate_holds : passes G flag C MATE ≡ true
    unfolding passes mates_pass
    mate_holds = m

    pub parent_fails : all (parent_test (bare n) parents) (range 0 (2 * n)) ≡ false → verdict G flag C ≡ NO PARENT
    unfolding verdict verdict_of
    parent_fails h = rw (mate_holds, sym (parents_are n first second weight flag mates duals parents) ∙ h)

    module _ (p : all (parent_test (bare n) parents) (range 0 (2 * n)) ≡ true) where
      pub dual_fails : all (dual_test (bare n) flag duals) (range 0 (2 * n)) ≡ false → verdict G flag C ≡ NO DUAL
      unfolding verdict verdict_of
      dual_fails h = rw (
        mate_holds,
        sym (parents_are n first second weight flag mates duals parents)
            ∙ p,
        sym (duals_are n first second weight flag mates duals parents) ∙ h,
      )

      pub sums_left : all (dual_test (bare n) flag duals) (range 0 (2 * n)) ≡ true → verdict G flag C ≡ verdict_of G flag C (EDGE ∷ TIGHT ∷ FREE ∷ FULL ∷ [])
      unfolding verdict verdict_of
      sums_left h = rw (
        mate_holds,
        sym (parents_are n first second weight flag mates duals parents)
            ∙ p,
        sym (duals_are n first second weight flag mates duals parents) ∙ h,
      )

pub ruleset sums = (free_fails, full_fails, full_holds, slack_fails)

pub ruleset judging = (mate_fails, parent_fails, dual_fails, sums_left)

-- ---- the check call

module _ (n : ℕ) (xs ys : List ℕ) (zs : List ℤ) where
  pub declined : (flag : Bool) (C : Certificate) (r : Refusal) → refused r ≡ intake_lists n xs ys zs (room_of C) → DECLINED r ≡ check_lists n xs ys zs flag C
  unfolding check_lists check intake_lists check_after
  declined flag C r h = go (same_length xs ys zs) (intake n (edges_from xs ys zs) (room_of C)) h
    where
      after : (i : Intake) → refused r ≡ i → DECLINED r ≡ check_after (lent n xs ys zs) flag C i
      after fine h = cc
      after (refused s) h = cc

      go : (t : Bool) (i : Intake) → refused r ≡ (if t then i else refused (unequal n (length xs))) → DECLINED r
          ≡ (if t then check_after (lent n xs ys zs) flag C i else DECLINED (unequal n (length xs)))
      go true i h = after i h
      go false i h = cc

  pub judged : (flag : Bool) (C : Certificate) → fine ≡ intake_lists n xs ys zs (room_of C) → JUDGED (verdict (lent n xs ys zs) flag (read_of n C))
      ≡ check_lists n xs ys zs flag C
  unfolding check_lists check intake_lists check_after
  judged flag C h = go (same_length xs ys zs) (intake n (edges_from xs ys zs) (room_of C)) h
    where
      go : (t : Bool) (i : Intake) → fine ≡ (if t then i else refused (unequal n (length xs)))
          → JUDGED (verdict (lent n xs ys zs) flag (read_of n C)) ≡ (if t then check_after (lent n xs ys zs) flag C i else DECLINED (unequal n (length xs)))
      go true fine h = refl
      go true (refused s) h = cc
      go false i h = cc

  module _ (r : Room) (h : fine ≡ intake_lists n xs ys zs r) where
    same_length_lem : T (same_length xs ys zs)
    unfolding intake_lists
    same_length_lem = go (same_length xs ys zs) (intake n (edges_from xs ys zs) r) h
      where
        go : (t : Bool) (i : Intake) → fine ≡ (if t then i else refused (unequal n (length xs))) → T t
        go true i h = tt
        go false i h = let z : ◌≡◌ {A = ℕ} 0 1 = cc in absurd (nought z)
          where
            nought : ◌≡◌ {A = ℕ} 0 1 → ⊥
            nought z = omega arith

    is_fine : intake n (edges_from xs ys zs) r ≡ fine
    unfolding intake_lists
    is_fine = go (same_length xs ys zs) same_length_lem (intake n (edges_from xs ys zs) r) h
      where
        go : (t : Bool) → T t → (i : Intake) → fine ≡ (if t then i else refused (unequal n (length xs))) → i ≡ fine
        go true f i h = sym h
        go false f i h = absurd f

    pub taken_in : Accepted n (edges_from xs ys zs) r
    taken_in = accepted n (edges_from xs ys zs) r is_fine

    seconds : length ys ≡ length xs
    unfolding same_length
    seconds = eqb→eq (length ys) (length xs) (and_l (eqb (length ys) (length xs)) (eqb (length zs) (length xs)) same_length_lem)

    weights : length zs ≡ length xs
    unfolding same_length
    weights = eqb→eq (length zs) (length xs) (and_r (eqb (length ys) (length xs)) (eqb (length zs) (length xs)) same_length_lem)

    at_edge : (e : ℕ) → e < length xs → AcceptedEdge n (edge (get_or xs e 0) (get_or ys e 0) (get_or zs e (pos 0)))
    at_edge e l = subst (λ (x : Edge). AcceptedEdge n x) (edge_at xs ys zs e seconds weights)
        (each_at (AcceptedEdge n) (edges_from xs ys zs) e (edge 0 0 (pos 0)) taken_in.each_edge (omega (arith, edges_length xs ys zs seconds weights)))

    pub known : Known n xs ys
    known = record {
      few_nodes = taken_in.few_nodes;
      few_edges = omega (arith, taken_in.few_edges, edges_length xs ys zs seconds weights);
      seconds = seconds;
      first_node = λ e l. (at_edge e l).first_node;
      second_node = λ e l. (at_edge e l).second_node;
    }

    pub weighed : Weighed xs zs
    weighed = record { weights = weights; near_zero = λ e l. (at_edge e l).near_zero }
