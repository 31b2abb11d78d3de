-- THE THEOREM, on the code's own answer. Where `plan` answers Done, for every n, edge lists, flag and budget, and whatever the lent lists
-- held on entry: the edges that the lent mates name are a matching, and no matching weighs more; with the flag, no matching of at least as
-- many edges does. `Optimal`, in `matching`, says just that. The first n mates name the same edges. The one assumption is what the contract
-- of `plan` ensures of its answer.
use Rattle.std.specs.Prelude.{if◌then◌else◌}
use mathlib.Core.Path.{◌≡◌, refl, sym, ap, subst, ◌∙◌}
use mathlib.Core.Bool.{Bool, true, false}
use mathlib.Core.List.{List}
use Prim.Native.Nat.{ℕ, ◌<◌}
use native.Mathlib.Omega.{arith}
use lib.IntN.{ℤ}
use lib.ListN.{length, take}
use lib.Seq.{get_or-take}
use Rattle.matching.specs.Graph.{Edge, Graph, graph_of, edges_from, edge_count, first_of, second_of, missing, WellFormed}
use Rattle.matching.specs.Matching.{Optimal}
use Rattle.matching.specs.Certificate.{mate_of, matched, pairs}
use Rattle.steps.specs.Refusals.{Intake, fine, refused, Room, intake}
use Rattle.steps.specs.Plan.{DONE, REFUSED, Plan, cleared, plan_after, plan}
use Rattle.steps.proofs.Accepted.{accepted, accepted_well_formed}
use Rattle.steps.proofs.Done.{done_optimal}
use Rattle.certificate.specs.Lists.{lent, same_length, unequal}
use Rattle.laws.proofs.Loops.{keep_same}
use Rattle.plan.specs.View.{plan_of, plan_lists}
use Rattle.plan.specs.declared.answers.Answer.{Answer}
use Rattle.plan.specs.declared.answers.Answer.TheVariants as answers

nought : ◌≡◌ {A = ℕ} 0 1 → ⊥
nought z = omega arith

-- ---- the mates beyond the first n name no edge of n nodes

first_matched : (G : Graph) (mates : List ℕ) → WellFormed G → (e : ℕ) → e < edge_count G → matched G (take G.nodes mates) e ≡ matched G mates e
unfolding matched mate_of
first_matched G mates w e h =
    rw (get_or-take G.nodes mates (first_of G e) missing (w e h).first_node, get_or-take G.nodes mates (second_of G e) missing (w e h).second_node)

pub first_pairs : (G : Graph) (mates : List ℕ) → WellFormed G → pairs G (take G.nodes mates) ≡ pairs G mates
unfolding pairs
first_pairs G mates w = keep_same (matched G (take G.nodes mates)) (matched G mates) 0 (edge_count G) (λ e l m. first_matched G mates w e (omega arith))

-- ---- a plan that is DONE was not refused

module _ (room : Room) (n : ℕ) (edges : List Edge) (flag : Bool) (budget : ℕ) where
  not_refused : (i : Intake) → (plan_after (graph_of n edges) flag budget room i).answer ≡ DONE → i ≡ fine
  unfolding plan_after cleared
  not_refused fine h = refl
  not_refused (refused r) h = let z : ◌≡◌ {A = ℕ} 0 1 = cc in absurd (nought z)

  pub well_formed : (plan room n edges flag budget).answer ≡ DONE → WellFormed (graph_of n edges)
  unfolding plan
  well_formed h = accepted_well_formed n edges (accepted n edges room (not_refused (intake n edges room) h)).each_edge

-- ---- the call

module _ (room : Room) (n : ℕ) (first second : List ℕ) (weight : List ℤ) (flag : Bool) (budget : ℕ) where
  is_plan : (plan_lists room n first second weight flag budget).answer ≡ DONE
      → plan_lists room n first second weight flag budget ≡ plan room n (edges_from first second weight) flag budget
  unfolding plan_lists cleared
  is_plan h = go (same_length first second weight) h
    where
      go : (t : Bool)
          → (if t then plan room n (edges_from first second weight) flag budget else cleared room (REFUSED (unequal n (length first))) 0).answer ≡ DONE
          → (if t then plan room n (edges_from first second weight) flag budget else cleared room (REFUSED (unequal n (length first))) 0)
          ≡ plan room n (edges_from first second weight) flag budget
      go true h = refl
      go false h = let z : ◌≡◌ {A = ℕ} 0 1 = cc in absurd (nought z)

  module _ (answer : Answer) (steps : ℕ) (mates : List ℕ) (duals : List ℤ) (parents : List ℕ)
      (e : plan_of answer mates duals parents ≡ plan_lists room n first second weight flag budget) (d : answer ≡ answers.Done steps) where
    is_done : (plan_lists room n first second weight flag budget).answer ≡ DONE
    is_done = sym (ap (λ (p : Plan). p.answer) e) ∙ ap (λ (x : Answer). (plan_of x mates duals parents).answer) d

    the_plan : plan_of answer mates duals parents ≡ plan room n (edges_from first second weight) flag budget
    the_plan = e ∙ is_plan is_done

    plan_done : (plan room n (edges_from first second weight) flag budget).answer ≡ DONE
    plan_done = ap (λ (p : Plan). p.answer) (sym (is_plan is_done)) ∙ is_done

    pub plan_done_optimal : Optimal (lent n first second weight) flag (pairs (lent n first second weight) mates)
    plan_done_optimal =
        subst (λ (m : List ℕ). Optimal (lent n first second weight) flag (pairs (lent n first second weight) m)) (sym (ap (λ (p : Plan). p.mates) the_plan))
        (done_optimal room n (edges_from first second weight) flag budget plan_done)

    pub first_mates_optimal : Optimal (lent n first second weight) flag (pairs (lent n first second weight) (take n mates))
    first_mates_optimal =
        subst (λ (M : List ℕ). Optimal (lent n first second weight) flag M)
        (sym (first_pairs (lent n first second weight) mates (well_formed room n (edges_from first second weight) flag budget plan_done)))
        plan_done_optimal
