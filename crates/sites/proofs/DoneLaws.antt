-- A plan that is done was not refused, so the weights of its edges are near zero; and what a plan prints.
use Rattle.std.specs.Prelude.{if◌then◌else◌}
use mathlib.Core.Path.{◌≡◌, refl, sym, ap, subst, ◌∙◌}
use mathlib.Core.Bool.{Bool, true, false}
use mathlib.Core.List.{List}
use Prim.Native.Nat.{ℕ, ◌*◌, ◌≤◌, zero-le}
use native.Mathlib.Omega.{arith}
use borrow.Author.Tests.{ltb-true, ltb-false}
use lib.Dec.{T, ltb}
use lib.IntN.{ℤ, pos, nat_abs}
use lib.ListN.{length, get_or}
use Rattle.matching.specs.Graph.{Edge, Graph, graph_of, edges_from}
use Rattle.numbers.specs.Near.{Near}
use Rattle.steps.specs.Refusals.{Refusal, Intake, fine, refused, Room, intake}
use Rattle.steps.specs.Plan.{Plan, Answer, DONE, REFUSED, cleared, plan, plan_after}
use Rattle.certificate.specs.Lists.{Weighed, lent, room, same_length, unequal, intake_lists}
use Rattle.certificate.proofs.JudgeLaws.{weighed}
use Rattle.printed.specs.Answer.{printed}
use Rattle.printed.proofs.PairLaws.{far}
use Rattle.plan.specs.View.{plan_of, plan_lists}
use Rattle.sites.specs.Answered.{is_done}
use Rattle.sites.specs.View.{Weighs, plan_text, plan_done}
use Rattle.plan.specs.declared.answers.Answer as answer
use Rattle.plan.specs.declared.answers.Answer.TheVariants as answers

-- ---- done is not refused

never : {B : Type 0} (r : Refusal) → DONE ≡ REFUSED r → B
never r e = absurd (subst (λ (a : Answer). T (is_done a)) e tt)

done_fine : (G : Graph) (flag : Bool) (budget : ℕ) (room : Room) (i : Intake) → DONE ≡ (plan_after G flag budget room i).answer → fine ≡ i
unfolding plan_after cleared
done_fine G flag budget room fine e = refl
done_fine G flag budget room (refused r) e = never r e

module _ (room : Room) (n : ℕ) (first second : List ℕ) (weight : List ℤ) (flag : Bool) (budget : ℕ) where
  done_taken : DONE ≡ (plan_lists room n first second weight flag budget).answer → fine ≡ intake_lists n first second weight room
  unfolding plan_lists intake_lists plan cleared
  done_taken e = go (same_length first second weight) e
    where
      edges : List Edge
      edges = edges_from first second weight

      go : (t : Bool) → DONE ≡ (if t then plan_after (graph_of n edges) flag budget room (intake n edges room)
          else cleared room (REFUSED (unequal n (length first))) 0).answer
          → fine ≡ (if t then intake n edges room else refused (unequal n (length first)))
      go true h = done_fine (graph_of n edges) flag budget room (intake n edges room) h
      go false h = never (unequal n (length first)) h

  near_all : Weighed first weight → Near 1000000000 weight
  near_all w = record { near = λ i. go i (ltb i (length weight)) refl }
    where
      go : (i : ℕ) (t : Bool) → ltb i (length weight) ≡ t → nat_abs (get_or weight i (pos 0)) ≤ 1000000000
      go i true e = w.near_zero i (omega (arith, ltb-true i (length weight) e, w.weights))
      go i false e = subst (λ (z : ℤ). nat_abs z ≤ 1000000000) (sym (far weight i (pos 0) (ltb-false i (length weight) e))) zero-le

  module _ (mates : List ℕ) (duals : List ℤ) (parents : List ℕ) where
    pub weighs : (a : answer.Answer) → plan_of a mates duals parents ≡ plan_lists room n first second weight flag budget → Weighs a weight
    weighs (answers.Done k) e = near_all (weighed n first second weight room (done_taken (ap (λ (p : Plan). p.answer) e)))
    weighs (answers.Steps k) e = tt
    weighs (answers.Fault k) e = tt
    weighs (answers.Refused c) e = tt

-- ---- the text of a plan in lists of just the length that it needs

pub lists_text : (n : ℕ) (first second : List ℕ) (weight : List ℤ) (flag : Bool) (budget : ℕ) (p : Plan) {x y z : ℕ}
    → p ≡ plan_lists (room x y z) n first second weight flag budget → x ≡ n → y ≡ 2 * n → z ≡ 2 * n
    → printed (lent n first second weight) p ≡ plan_text n first second weight flag budget
unfolding plan_text
lists_text n first second weight flag budget p e f g h =
    ap (λ (q : Plan). printed (lent n first second weight) q) e ∙ rw (f, g, h)

-- and whether it is done
pub lists_done : (n : ℕ) (first second : List ℕ) (weight : List ℤ) (flag : Bool) (budget : ℕ) (p : Plan) {x y z : ℕ}
    → p ≡ plan_lists (room x y z) n first second weight flag budget → x ≡ n → y ≡ 2 * n → z ≡ 2 * n
    → is_done p.answer ≡ plan_done n first second weight flag budget
unfolding plan_done
lists_done n first second weight flag budget p e f g h = ap (λ (q : Plan). is_done q.answer) e ∙ rw (f, g, h)
