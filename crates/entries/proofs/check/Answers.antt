use Rattle.std.proofs.Common.{◌≡◌, ℕ, Bool, List, ℤ, length, take, sym, ap, ◌∙◌}
use Rattle.entries.specs.Entries.{lists_of}
use Rattle.entries.specs.declared.EdgeEntry.{EdgeEntry}
use Rattle.entries.specs.declared.EdgeLists.{EdgeLists}
use Rattle.certificate.specs.declared.answers.Verdict.{Verdict as Result}
use Rattle.matching.specs.Certificate.{Certificate}
use Rattle.steps.specs.Check.{check as check_of}
use Rattle.certificate.specs.Lists.{certificate_of}
use Rattle.certificate.specs.View.{judgement_of}
use Rattle.entries.specs.Calls.{edges_of, check_counted}
use Rattle.entries.proofs.Told.{count_is, fronts}
use Rattle.entries.proofs.CallLaws.{check_over, check_entries}
use Rattle.entries.proofs.check.Goals as goal

-- what `check_lists` says at the record d, and what this function says of the entries
abbrev SaidOf : EdgeLists → ℕ → Bool → List ℕ → List ℤ → List ℕ → Result → Type 0
SaidOf d nodes flag mates duals parents r =
    judgement_of r ≡ check_counted nodes d.count (take d.count d.first) (take d.count d.second) (take d.count d.weight)
    flag (certificate_of mates duals parents)

abbrev Said : List EdgeEntry → ℕ → Bool → List ℕ → List ℤ → List ℕ → Result → Type 0
Said es nodes flag mates duals parents r = judgement_of r ≡ check_of nodes (edges_of es) flag (certificate_of mates duals parents)

said : (es : List EdgeEntry) (d : EdgeLists) → d ≡ lists_of es → (nodes : ℕ) (flag : Bool) (mates : List ℕ) (duals : List ℤ)
    (parents : List ℕ) (r : Result) → SaidOf d nodes flag mates duals parents r → Said es nodes flag mates duals parents r
said es d e nodes flag mates duals parents r told =
    told ∙ ap (λ (m : ℕ). check_counted nodes m (take d.count d.first) (take d.count d.second) (take d.count d.weight) flag C) (sym (count_is es d e))
    ∙ fronts (λ (fs ss : List ℕ) (ws : List ℤ). check_counted nodes (length es) fs ss ws flag C) es d e
    (λ h fs ss ws. check_over nodes (length es) fs ss ws flag C h ∙ sym (check_over nodes (length es) _ _ _ flag C h))
    ∙ check_entries nodes es flag C
  where
    C : Certificate
    C = certificate_of mates duals parents

pub returns : goal.returns
returns c =
    let a = c.args in
    said a.edges.now c.split.result c.split.ensures a.n a.max_cardinality a.mates.now a.duals.now a.parents.now c.check_lists.result c.check_lists.ensures
