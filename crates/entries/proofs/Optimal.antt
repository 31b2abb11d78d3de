-- THE THEOREMS, on the code's own answers to edge entries. Where `plan` answers Done, whatever the lent lists held on entry: the edges that
-- the lent mates name, and those that the first n name, are a matching, and no matching weighs more; with the flag, no matching of at least
-- as many edges does. Where `check` answers Yes, whoever wrote the lists, the same is so of the first n mates. `Optimal`, in `matching`,
-- says just that. The one assumption is what the contract of the call ensures of its answer.
use mathlib.Core.Path.{◌≡◌, sym, ap, subst, ◌∙◌}
use mathlib.Core.Bool.{Bool}
use mathlib.Core.List.{List}
use Prim.Native.Nat.{ℕ}
use lib.IntN.{ℤ}
use lib.ListN.{take}
use Rattle.matching.specs.Graph.{Graph, graph_of}
use Rattle.matching.specs.Matching.{Optimal}
use Rattle.matching.specs.Certificate.{pairs}
use Rattle.steps.specs.Refusals.{Room}
use Rattle.steps.specs.Check.{check}
use Rattle.steps.specs.Plan.{DONE, Plan, plan}
use Rattle.steps.proofs.Done.{done_optimal}
use Rattle.certificate.specs.Lists.{certificate_of}
use Rattle.certificate.specs.View.{judgement_of}
use Rattle.certificate.specs.declared.answers.Verdict.{Verdict}
use Rattle.certificate.specs.declared.answers.Verdict.TheVariants as verdicts
use Rattle.certificate.proofs.Yes.{judged_optimal}
use Rattle.plan.specs.View.{plan_of}
use Rattle.plan.specs.declared.answers.Answer.{Answer}
use Rattle.plan.specs.declared.answers.Answer.TheVariants as answers
use Rattle.plan.proofs.Optimal.{well_formed, first_pairs}
use Rattle.entries.specs.Calls.{edges_of}
use Rattle.entries.specs.declared.EdgeEntry.{EdgeEntry}

module _ (n : ℕ) (es : List EdgeEntry) (flag : Bool) where
  abbrev G : Graph
  G = graph_of n (edges_of es)

  module _ (room : Room) (budget : ℕ) (answer : Answer) (steps : ℕ) (mates : List ℕ) (duals : List ℤ) (parents : List ℕ)
      (e : plan_of answer mates duals parents ≡ plan room n (edges_of es) flag budget) (d : answer ≡ answers.Done steps) where
    is_done : (plan room n (edges_of es) flag budget).answer ≡ DONE
    is_done = sym (ap (λ (p : Plan). p.answer) e) ∙ ap (λ (x : Answer). (plan_of x mates duals parents).answer) d

    pub plan_done_optimal : Optimal G flag (pairs G mates)
    plan_done_optimal =
        subst (λ (m : List ℕ). Optimal G flag (pairs G m)) (sym (ap (λ (p : Plan). p.mates) e)) (done_optimal room n (edges_of es) flag budget is_done)

    pub first_mates_optimal : Optimal G flag (pairs G (take n mates))
    first_mates_optimal =
        subst (λ (M : List ℕ). Optimal G flag M) (sym (first_pairs G mates (well_formed room n (edges_of es) flag budget is_done))) plan_done_optimal

  pub check_yes_optimal : (answer : Verdict) (mates : List ℕ) (duals : List ℤ) (parents : List ℕ)
      → judgement_of answer ≡ check n (edges_of es) flag (certificate_of mates duals parents) → answer ≡ verdicts.Yes
      → Optimal G flag (pairs G (take n mates))
  check_yes_optimal answer mates duals parents e y = judged_optimal n (edges_of es) flag (certificate_of mates duals parents) (sym e ∙ ap judgement_of y)
