-- The contract of `read_site` allows one result: a complaint is known by its number (`same_complaint`), two answers that tell the same are
-- equal (`same_answer`), and so are two answers with their lists that are read from one file (`read_single`).
use Rattle.std.specs.Prelude.{if◌then◌else◌, Result, Ok, Err}
use mathlib.Core.Path.{◌≡◌, refl, sym, ap, ◌∙◌}
use mathlib.Core.Bool.{Bool, false}
use mathlib.Core.HLevel.{is_prop→PathP}
use mathlib.Core.List.{List}
use Prim.Native.Nat.{ℕ, ◌≤◌}
use native.Mathlib.Bridge.{le_prop}
use native.Mathlib.Omega.{arith}
use lib.Dec.{eqb}
use lib.IntN.{ℤ}
use Rattle.steps.specs.Refusals.{max_nodes, max_edges}
use Rattle.records.specs.Site.{Told, accepted, rejected, complaint_number}
use Rattle.records.specs.View.{complaint_of}
use Rattle.records.specs.WholeView.{told_by, ReadAs}
use Rattle.records.specs.declared.complaint.Complaint.{Complaint}
use Rattle.records.specs.declared.complaint.Complaint.TheVariants as complaints
use Rattle.records.specs.declared.site.Head.{Head}
use Rattle.records.specs.declared.site.Refused.{Refused}

complaint_at : (number : ℕ) → Complaint
complaint_at k =
    if eqb k 1 then complaints.Nodes
    else if eqb k 2 then complaints.Edges
    else if eqb k 6 then complaints.Buffer
    else if eqb k 21 then complaints.Kind
    else if eqb k 22 then complaints.Cut
    else if eqb k 23 then complaints.Order
    else if eqb k 24 then complaints.Time
    else complaints.Long

complaint_back : (x : Complaint) → complaint_at (complaint_number (complaint_of x)) ≡ x
unfolding complaint_at
complaint_back complaints.Nodes = refl
complaint_back complaints.Edges = refl
complaint_back complaints.Buffer = refl
complaint_back complaints.Kind = refl
complaint_back complaints.Cut = refl
complaint_back complaints.Order = refl
complaint_back complaints.Time = refl
complaint_back complaints.Long = refl

pub same_complaint : (a b : Complaint) → complaint_number (complaint_of a) ≡ complaint_number (complaint_of b) → a ≡ b
same_complaint a b k = sym (complaint_back a) ∙ ap complaint_at k ∙ complaint_back b

-- the facts that a Head holds of its nodes and edges have one proof each
same_head : (a b : Head) → a.nodes ≡ b.nodes → a.flag ≡ b.flag → a.budget ≡ b.budget → a.edges ≡ b.edges → a ≡ b
same_head a b n f s m = λ i. record {
  nodes = n i;
  flag = f i;
  budget = s i;
  edges = m i;
  few_nodes = is_prop→PathP (λ j. n j ≤ max_nodes) (λ j. le_prop) a.few_nodes b.few_nodes i;
  few_edges = is_prop→PathP (λ j. m j ≤ max_edges) (λ j. le_prop) a.few_edges b.few_edges i;
}

-- ---- what is told

abbrev nodes_told : Told → ℕ
nodes_told (accepted n f s m) = n
nodes_told (rejected k p) = 0

abbrev flag_told : Told → Bool
flag_told (accepted n f s m) = f
flag_told (rejected k p) = false

abbrev budget_told : Told → ℕ
budget_told (accepted n f s m) = s
budget_told (rejected k p) = 0

abbrev edges_told : Told → ℕ
edges_told (accepted n f s m) = m
edges_told (rejected k p) = 0

abbrev number_told : Told → ℕ
number_told (accepted n f s m) = 0
number_told (rejected k p) = k

abbrev place_told : Told → ℕ
place_told (accepted n f s m) = 0
place_told (rejected k p) = p

same_refusal : (a b : Refused) → a.what ≡ b.what → a.place ≡ b.place → a ≡ b
same_refusal a b c p = λ i. record { what = c i; place = p i }

module _ (a b : Result Head Refused) where
  pub same_answer : told_by a ≡ told_by b → a ≡ b
  same_answer = go a b
    where
      nought : ◌≡◌ {A = ℕ} 0 1 → ⊥
      nought z = omega arith

      go : (a b : Result Head Refused) → told_by a ≡ told_by b → a ≡ b
      go (Ok h) (Ok k) e = ap Ok (same_head h k (ap nodes_told e) (ap flag_told e) (ap budget_told e) (ap edges_told e))
      go (Ok h) (Err r) e = let z : ◌≡◌ {A = ℕ} 0 1 = cc in absurd (nought z)
      go (Err r) (Ok h) e = let z : ◌≡◌ {A = ℕ} 0 1 = cc in absurd (nought z)
      go (Err r) (Err s) e = ap Err (same_refusal r s (same_complaint r.what s.what (ap number_told e)) (ap place_told e))

  pub read_single : {file F S : List ℕ} {W : List ℤ} {f f' s s' : List ℕ} {w w' : List ℤ} → ReadAs file F S W a f s w → ReadAs file F S W b f' s' w'
      → (a ≡ b) × (f ≡ f') × (s ≡ s') × (w ≡ w')
  read_single x y = (
    same_answer (x.answers ∙ sym y.answers),
    x.firsts ∙ sym y.firsts,
    x.seconds ∙ sym y.seconds,
    x.weights ∙ sym y.weights,
  )
