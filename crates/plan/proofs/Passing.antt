-- THE THEOREM: DONE and YES agree. Where the plan call answers DONE, for every n, edge list, flag and budget, and lent lists of any length,
-- the check call answers YES to the lists that are left and the same n, edges and flag: with no edges too. So whoever checks again what was
-- planned is never told NO, nor refused. The one assumption is that the lists are as long as they were lent, as all lent lists are.
use Rattle.std.specs.Prelude.{if◌then◌else◌}
use mathlib.Core.Path.{◌≡◌, refl, sym, ap, subst, ◌∙◌}
use mathlib.Core.Bool.{Bool, true, false, not, ◌&&◌, ◌||◌}
use mathlib.Core.List.{List, [], ◌∷◌, ◌++◌}
use Prim.Native.Nat.{ℕ, zero, suc, ◌*◌, ◌-◌, ◌≤◌}
use native.Mathlib.Omega.{arith}
use lib.Dec.{leb}
use lib.IntN.{ℤ, pos}
use lib.ListN.{length, take, replicate, length-append, length-replicate}
use lib.Seq.{take-append_seam}
use lib.Signed.{le_z}
use Rattle.laws.specs.Integers.{lesser, greater, least_from, least}
use Rattle.laws.specs.Lists.{all, range}
use Rattle.laws.proofs.Lists.{get_or_padded}
use Rattle.laws.proofs.Windows.{take_replicate}
use Rattle.matching.specs.Graph.{Edge, Graph, graph_of, edges_from, missing}
use Rattle.matching.specs.Certificate.{Certificate, mate_of, dual_of, parent_of, max_dual, offset}
use Rattle.matching.specs.Tests.{mate_test, climb_ends, parent_test, dual_test, free_test, full_test, mates_pass, passes}
use Rattle.matching.specs.Tests.{Verdict, YES, NO, verdict, verdict_of}
use Rattle.steps.specs.State.{start}
use Rattle.steps.specs.Refusals.{Intake, fine, refused, Room, intake}
use Rattle.steps.specs.Check.{Judgement, JUDGED, DECLINED, room_of, read_of, check_after, check}
use Rattle.steps.specs.Plan.{DONE, REFUSED, Ending, finished, spent, broken, run, Plan, cleared, filled, certificate_of as certificate_in}
use Rattle.steps.specs.Plan.{certified, plan_end, plan_fine, plan_after, plan}
use Rattle.steps.proofs.Accepted.{Accepted, accepted}
use Rattle.certificate.specs.Lists.{room, certificate_of, same_length, unequal, check_lists}
use Rattle.plan.specs.View.{answer_of, plan_of, plan_lists}
use Rattle.plan.specs.declared.answers.Answer.{Answer}

nought : ◌≡◌ {A = ℕ} 0 1 → ⊥
nought z = omega arith

-- the lists that a plan leaves, as the check call is lent them
abbrev pub left_by : Plan → Certificate
left_by p = certificate_of p.mates p.duals p.parents

-- ---- with no edges: the front of cleared lists passes

module _ (n : ℕ) (flag : Bool) where
  abbrev G : Graph
  G = graph_of n []

  abbrev Z : Certificate
  Z = certificate_of (replicate n missing) (replicate (2 * n) (pos 0)) (replicate (2 * n) missing)

  no_mate : (v : ℕ) → mate_of Z.mates v ≡ missing
  unfolding mate_of
  no_mate v = get_or_padded [] n v missing

  no_dual : (i : ℕ) → dual_of Z.duals i ≡ pos 0
  unfolding dual_of
  no_dual i = get_or_padded [] (2 * n) i (pos 0)

  no_parent : (i : ℕ) → parent_of Z.parents i ≡ missing
  unfolding parent_of
  no_parent i = get_or_padded [] (2 * n) i missing

  all_pass : (p : ℕ → Bool) → ((i : ℕ) → p i ≡ true) → (s c : ℕ) → all p (range s c) ≡ true
  unfolding all range
  all_pass p h s zero = refl
  all_pass p h s (suc c) = rw (h s, all_pass p h (suc s) c)

  mate_passes : (v : ℕ) → mate_test G Z.mates v ≡ true
  unfolding mate_test
  mate_passes v = rw (no_mate v)

  climbs : (k i : ℕ) → climb_ends Z.parents k i ≡ true
  unfolding climb_ends
  climbs zero i = rw (no_parent i)
  climbs (suc k) i = rw (no_parent i)

  parent_passes : (i : ℕ) → parent_test G Z.parents i ≡ true
  unfolding parent_test
  parent_passes i = rw (no_parent i, climbs n i)

  dual_passes : (i : ℕ) → dual_test G flag Z.duals i ≡ true
  unfolding dual_test
  dual_passes i = rw (no_dual i) (go (leb n i) flag)
    where
      go : (a b : Bool) → (leb 0 max_dual && ((not a || le_z (pos 0) (pos 0)) && (not (not b) || le_z (pos 0) (pos 0)))) ≡ true
      go true true = refl
      go true false = refl
      go false true = refl
      go false false = refl

  zeros_from : (k : ℕ) → least_from (pos 0) (replicate k (pos 0)) ≡ pos 0
  unfolding least_from lesser
  zeros_from zero = refl
  zeros_from (suc k) = zeros_from k

  least_zeros : (k : ℕ) → least (replicate k (pos 0)) ≡ pos 0
  unfolding least
  least_zeros zero = refl
  least_zeros (suc k) = zeros_from k

  no_offset : offset G flag Z.duals ≡ pos 0
  unfolding offset greater
  no_offset = rw (take_replicate n (2 * n) (pos 0) (omega arith), least_zeros n) (go flag)
    where
      go : (t : Bool) → (if t then pos 0 else pos 0) ≡ pos 0
      go true = refl
      go false = refl

  free_passes : (v : ℕ) → free_test G flag Z v ≡ true
  unfolding free_test
  free_passes v = rw (no_mate v, no_dual v, no_offset)

  full_passes : (B : ℕ) → full_test G Z B ≡ true
  unfolding full_test
  full_passes B = rw (no_dual B)

  empty_yes : verdict G flag Z ≡ YES
  unfolding verdict verdict_of passes mates_pass all range
  empty_yes =
      rw (
        all_pass (mate_test G Z.mates) mate_passes 0 n,
        all_pass (parent_test G Z.parents) parent_passes 0 (2 * n),
        all_pass (dual_test G flag Z.duals) dual_passes 0 (2 * n),
        all_pass (free_test G flag Z) free_passes 0 n,
        all_pass (full_test G Z) full_passes n n,
      )

-- ---- what the check reads of the lists that are left

module _ (R : Room) (n : ℕ) (edges : List Edge) (ok : Accepted n edges R) where
  read_cleared : (k : ℕ) → read_of n (left_by (cleared R DONE k))
      ≡ certificate_of (replicate n missing) (replicate (2 * n) (pos 0)) (replicate (2 * n) missing)
  unfolding read_of cleared
  read_cleared k =
      rw (
        take_replicate n R.mates missing ok.mates_fit,
        take_replicate (2 * n) R.duals (pos 0) ok.duals_fit,
        take_replicate (2 * n) R.parents missing ok.parents_fit,
      )

  front : {A : Type 0} (k size : ℕ) (xs : List A) (v : A) → k ≤ size → length (xs ++ replicate (size - k) v) ≡ size
      → take k (xs ++ replicate (size - k) v) ≡ xs
  front k size xs v h l =
      let e : length xs ≡ k = omega (arith, l, length-append xs (replicate (size - k) v), length-replicate (size - k) v) in
      ap (λ (i : ℕ). take i (xs ++ replicate (size - k) v)) (sym e) ∙ take-append_seam xs (replicate (size - k) v)

  read_filled : (k : ℕ) (C : Certificate) → room_of (left_by (filled n R k C)) ≡ R → read_of n (left_by (filled n R k C)) ≡ C
  unfolding read_of filled room_of
  read_filled k C h =
      rw (
        front n R.mates C.mates missing ok.mates_fit (ap (λ (r : Room). r.mates) h),
        front (2 * n) R.duals C.duals (pos 0) ok.duals_fit (ap (λ (r : Room). r.duals) h),
        front (2 * n) R.parents C.parents missing ok.parents_fit (ap (λ (r : Room). r.parents) h),
      )

-- ---- from the end of the call to its beginning

-- the check's verdict on the lists of a plan that is done
abbrev Good : Graph → Bool → Room → Plan → Type 0
Good G flag R p = p.answer ≡ DONE → room_of (left_by p) ≡ R → verdict G flag (read_of G.nodes (left_by p)) ≡ YES

module _ (R : Room) (n : ℕ) (edges : List Edge) (ok : Accepted n edges R) (flag : Bool) where
  judged_good : (k : ℕ) (C : Certificate) (v : Verdict) → verdict (graph_of n edges) flag C ≡ v
      → Good (graph_of n edges) flag R (certified n R k C v)
  unfolding certified cleared
  judged_good k C YES e d h = ap (verdict (graph_of n edges) flag) (read_filled R n edges ok k C h) ∙ e
  judged_good k C (NO c) e d h = let z : ◌≡◌ {A = ℕ} 0 1 = cc in absurd (nought z)

  end_good : (r : Ending) → Good (graph_of n edges) flag R (plan_end (graph_of n edges) flag R r)
  unfolding plan_end cleared
  end_good (finished k s) d h = judged_good k (certificate_in s) (verdict (graph_of n edges) flag (certificate_in s)) refl d h
  end_good (spent k) d h = let z : ◌≡◌ {A = ℕ} 0 1 = cc in absurd (nought z)
  end_good (broken k) d h = let z : ◌≡◌ {A = ℕ} 0 1 = cc in absurd (nought z)

module _ (R : Room) (n : ℕ) (flag : Bool) (budget : ℕ) where
  fine_good : (edges : List Edge) → Accepted n edges R → Good (graph_of n edges) flag R (plan_fine (graph_of n edges) flag budget R edges)
  unfolding plan_fine
  fine_good [] ok d h = ap (verdict (graph_of n []) flag) (read_cleared R n [] ok 0) ∙ empty_yes n flag
  fine_good (x ∷ xs) ok d h = end_good R n (x ∷ xs) ok flag (run (graph_of n (x ∷ xs)) flag budget 0 (start (graph_of n (x ∷ xs)))) d h

  module _ (edges : List Edge) where
    abbrev Yes : Plan → Type 0
    Yes p = p.answer ≡ DONE → room_of (left_by p) ≡ R → check n edges flag (left_by p) ≡ JUDGED YES

    after_good : (i : Intake) → intake n edges R ≡ i → Yes (plan_after (graph_of n edges) flag budget R i)
    unfolding plan_after cleared check check_after
    after_good fine e d h =
        let p = plan_fine (graph_of n edges) flag budget R edges in
        ap (λ (r : Room). check_after (graph_of n edges) flag (left_by p) (intake n edges r)) h
        ∙ ap (check_after (graph_of n edges) flag (left_by p)) e
        ∙ ap JUDGED (fine_good edges (accepted n edges R e) d h)
    after_good (refused r) e d h = let z : ◌≡◌ {A = ℕ} 0 1 = cc in absurd (nought z)

    pub done_yes : Yes (plan R n edges flag budget)
    unfolding plan
    done_yes = after_good (intake n edges R) refl

-- ---- on the code's own answer, with the lent lists at the end

module _ (R : Room) (n : ℕ) (flag : Bool) (budget : ℕ) where
  -- of a plan, and what the check call says of the lists that it leaves
  abbrev Agrees : Plan → Judgement → Type 0
  Agrees p j = p.answer ≡ DONE → room_of (left_by p) ≡ R → j ≡ JUDGED YES

  module _ (answer : Answer) (mates : List ℕ) (duals : List ℤ) (parents : List ℕ) where
    module _ (edges : List Edge) where
      pub edges_agree : plan_of answer mates duals parents ≡ plan R n edges flag budget → room (length mates) (length duals) (length parents) ≡ R
          → answer_of answer ≡ DONE → check n edges flag (certificate_of mates duals parents) ≡ JUDGED YES
      unfolding room_of
      edges_agree e l h = subst (λ (x : Plan). Agrees x (check n edges flag (left_by x))) (sym e) (done_yes R n flag budget edges) h l

    -- on three lists
    module _ (first second : List ℕ) (weight : List ℤ) where
      abbrev edges : List Edge
      edges = edges_from first second weight

      abbrev made : Bool → Plan
      made t = if t then plan R n edges flag budget else cleared R (REFUSED (unequal n (length first))) 0

      lists_yes : Agrees (plan_lists R n first second weight flag budget)
          (check_lists n first second weight flag (left_by (plan_lists R n first second weight flag budget)))
      unfolding plan_lists check_lists cleared
      lists_yes = go (same_length first second weight)
        where
          go : (t : Bool) → Agrees (made t) (if t then check n edges flag (left_by (made t)) else DECLINED (unequal n (length first)))
          go true d h = done_yes R n flag budget edges d h
          go false d h = let z : ◌≡◌ {A = ℕ} 0 1 = cc in absurd (nought z)

      pub lists_agree : plan_of answer mates duals parents ≡ plan_lists R n first second weight flag budget
          → room (length mates) (length duals) (length parents) ≡ R → answer_of answer ≡ DONE
          → check_lists n first second weight flag (certificate_of mates duals parents) ≡ JUDGED YES
      unfolding room_of
      lists_agree e l h = subst (λ (x : Plan). Agrees x (check_lists n first second weight flag (left_by x))) (sym e) lists_yes h l
