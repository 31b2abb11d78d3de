use Rattle.std.proofs.Common.{◌≡◌, ℕ, Bool, List, ℤ, length, take, sym, ap, ◌∙◌}
use Rattle.entries.specs.Entries.{lists_of}
use Rattle.entries.specs.declared.EdgeEntry.{EdgeEntry}
use Rattle.entries.specs.declared.EdgeLists.{EdgeLists}
use Rattle.plan.specs.declared.answers.Answer.{Answer as Result}
use Rattle.steps.specs.Refusals.{Room}
use Rattle.steps.specs.Plan.{plan as planned}
use Rattle.certificate.specs.Lists.{room}
use Rattle.plan.specs.View.{plan_of}
use Rattle.plan.proofs.CallLaws.{still_cleared, same_room}
use Rattle.plan.proofs.Passing.{edges_agree}
use Rattle.entries.specs.Calls.{edges_of, plan_counted}
use Rattle.entries.proofs.Told.{count_is, fronts}
use Rattle.entries.proofs.CallLaws.{plan_over, plan_entries}
use Rattle.entries.proofs.plan.Goals as goal

-- what `plan_lists` says at the record d, and what this function says of the entries
abbrev SaidOf : EdgeLists → ℕ → Bool → ℕ → List ℕ → List ℤ → List ℕ → Result → List ℕ → List ℤ → List ℕ → Type 0
SaidOf d nodes flag budget mates duals parents r mates' duals' parents' =
    plan_of r mates' duals' parents' ≡ plan_counted (room (length mates) (length duals) (length parents)) nodes
    d.count (take d.count d.first) (take d.count d.second) (take d.count d.weight) flag budget

abbrev Said : List EdgeEntry → ℕ → Bool → ℕ → List ℕ → List ℤ → List ℕ → Result → List ℕ → List ℤ → List ℕ → Type 0
Said es nodes flag budget mates duals parents r mates' duals' parents' =
    plan_of r mates' duals' parents' ≡ planned (room (length mates) (length duals) (length parents)) nodes (edges_of es) flag budget

said : (es : List EdgeEntry) (d : EdgeLists) → d ≡ lists_of es → (nodes : ℕ) (flag : Bool) (budget : ℕ)
    (mates : List ℕ) (duals : List ℤ) (parents : List ℕ) (r : Result) (mates' : List ℕ) (duals' : List ℤ) (parents' : List ℕ)
    → SaidOf d nodes flag budget mates duals parents r mates' duals' parents' → Said es nodes flag budget mates duals parents r mates' duals' parents'
said es d e nodes flag budget mates duals parents r mates' duals' parents' told =
    told ∙ ap (λ (m : ℕ). plan_counted R nodes m (take d.count d.first) (take d.count d.second) (take d.count d.weight) flag budget) (sym (count_is es d e))
    ∙ fronts (λ (fs ss : List ℕ) (ws : List ℤ). plan_counted R nodes (length es) fs ss ws flag budget) es d e
    (λ h fs ss ws. plan_over nodes (length es) fs ss ws flag R budget h ∙ sym (plan_over nodes (length es) _ _ _ flag R budget h))
    ∙ plan_entries nodes es flag R budget
  where
    R : Room
    R = room (length mates) (length duals) (length parents)

pub plan_lists-requires-clause-mates : goal.plan_lists-requires-clause-mates
plan_lists-requires-clause-mates c = still_cleared _ _ c.clear.ensures

pub plan_lists-requires-clause-duals : goal.plan_lists-requires-clause-duals
plan_lists-requires-clause-duals c = still_cleared _ _ c.clear_duals.ensures

pub plan_lists-requires-clause-parents : goal.plan_lists-requires-clause-parents
plan_lists-requires-clause-parents c = still_cleared _ _ c.clear-2.ensures

pub returns-clause-said : goal.returns-clause-said
returns-clause-said c =
    let a = c.args in
    let p = c.plan_lists in
    said a.edges.now c.split.result c.split.ensures a.n a.max_cardinality a.budget _ _ _ p.result p.new.mates p.new.duals p.new.parents p.ensures
    ∙ ap (λ (r : Room). planned r a.n (edges_of a.edges.now) a.max_cardinality a.budget)
    (same_room _ _ _ c.clear.ensures c.clear_duals.ensures c.clear-2.ensures)

pub returns-clause-agreed : goal.returns-clause-agreed
returns-clause-agreed c =
    let l = c.plan_lists.auto in
    edges_agree _ _ _ _ c.plan_lists.result _ _ _ _ (returns-clause-said c)
    ((λ i. room (l.mates i) (l.duals i) (l.parents i)) ∙ same_room _ _ _ c.clear.ensures c.clear_duals.ensures c.clear-2.ensures)
