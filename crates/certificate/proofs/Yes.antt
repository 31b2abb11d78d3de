-- THE THEOREM, on the code's own answer. Where `check` answers Yes, whatever lists it was lent and whoever wrote them: the edges that the
-- first n mates name are a matching, and no matching weighs more; with the flag, no matching of at least as many edges does. `Optimal`, in
-- `matching`, says just that. The one assumption is what the contract of `check` ensures of its answer.
use Rattle.std.specs.Prelude.{if◌then◌else◌}
use mathlib.Core.Path.{◌≡◌, refl, sym, ap, ◌∙◌}
use mathlib.Core.Bool.{Bool, true, false}
use mathlib.Core.List.{List}
use Prim.Native.Nat.{ℕ}
use native.Mathlib.Omega.{arith}
use lib.IntN.{ℤ}
use lib.ListN.{length, take}
use Rattle.matching.specs.Graph.{Edge, graph_of, edges_from}
use Rattle.matching.specs.Matching.{Optimal}
use Rattle.matching.specs.Certificate.{Certificate, pairs}
use Rattle.matching.specs.Tests.{YES}
use Rattle.matching.proofs.Decided.{yes_optimal}
use Rattle.steps.specs.Refusals.{Intake, fine, refused, intake}
use Rattle.steps.specs.Check.{Judgement, JUDGED, DECLINED, room_of, read_of, check_after, check}
use Rattle.steps.proofs.Accepted.{accepted, accepted_well_formed}
use Rattle.certificate.specs.Lists.{lent, certificate_of, same_length, unequal, check_lists}
use Rattle.certificate.specs.View.{judgement_of}
use Rattle.certificate.specs.declared.answers.Verdict.{Verdict as Answer}
use Rattle.certificate.specs.declared.answers.Verdict.TheVariants as answers

nought : ◌≡◌ {A = ℕ} 0 1 → ⊥
nought z = omega arith

-- ---- on a list of edges

module _ (n : ℕ) (edges : List Edge) (flag : Bool) (C : Certificate) where
  after : (i : Intake) → intake n edges (room_of C) ≡ i → check_after (graph_of n edges) flag C i ≡ JUDGED YES
      → Optimal (graph_of n edges) flag (pairs (graph_of n edges) (take n C.mates))
  unfolding check_after read_of
  after fine e h = yes_optimal (graph_of n edges) (accepted_well_formed n edges (accepted n edges (room_of C) e).each_edge) flag (read_of n C) (cc)
  after (refused r) e h = let z : ◌≡◌ {A = ℕ} 0 1 = cc in absurd (nought z)

  pub judged_optimal : check n edges flag C ≡ JUDGED YES → Optimal (graph_of n edges) flag (pairs (graph_of n edges) (take n C.mates))
  unfolding check
  judged_optimal h = after (intake n edges (room_of C)) refl h

-- ---- on three lists

module _ (n : ℕ) (first second : List ℕ) (weight : List ℤ) (flag : Bool) (mates : List ℕ) (duals : List ℤ) (parents : List ℕ) where
  abbrev J : Judgement
  J = check n (edges_from first second weight) flag (certificate_of mates duals parents)

  lists_optimal : check_lists n first second weight flag (certificate_of mates duals parents) ≡ JUDGED YES
      → Optimal (lent n first second weight) flag (pairs (lent n first second weight) (take n mates))
  unfolding check_lists
  lists_optimal h = go (same_length first second weight) h
    where
      go : (t : Bool) → (if t then J else DECLINED (unequal n (length first))) ≡ JUDGED YES
          → Optimal (lent n first second weight) flag (pairs (lent n first second weight) (take n mates))
      go true h = judged_optimal n (edges_from first second weight) flag (certificate_of mates duals parents) h
      go false h = let z : ◌≡◌ {A = ℕ} 0 1 = cc in absurd (nought z)

  pub check_yes_optimal : (answer : Answer) → judgement_of answer ≡ check_lists n first second weight flag (certificate_of mates duals parents) → answer
      ≡ answers.Yes
      → Optimal (lent n first second weight) flag (pairs (lent n first second weight) (take n mates))
  check_yes_optimal answer e y = lists_optimal (sym e ∙ ap judgement_of y)
