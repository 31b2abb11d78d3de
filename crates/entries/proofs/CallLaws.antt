-- The two calls on the lists of a list of entries are the calls on its edges; and what a count over 2,048 is answered by.
use Rattle.std.specs.Prelude.{if◌then◌else◌}
use mathlib.Core.Path.{◌≡◌, refl, sym, ap, subst}
use mathlib.Core.Bool.{Bool, true, false, not}
use mathlib.Core.List.{List, [], ◌∷◌, map}
use Prim.Native.Nat.{ℕ, ◌<◌, ◌≤◌}
use borrow.Author.Tests.{eq-eqb, lt-ltb, le-ltb}
use lib.Dec.{T, leb, ltb, leb→le, nleb→lt}
use lib.IntN.{ℤ, pos}
use lib.ListN.{length, replicate, length-map}
use Rattle.matching.specs.Graph.{Edge, missing, edges_from}
use Rattle.matching.specs.Certificate.{Certificate}
use Rattle.steps.specs.Refusals.{Refusal, NODES, EDGES, refused, Room, intake}
use Rattle.steps.specs.Check.{Judgement, DECLINED, check_after, check, room_of}
use Rattle.steps.specs.Plan.{Plan, REFUSED, cleared, plan_after, plan}
use Rattle.certificate.specs.Lists.{same_length, check_lists}
use Rattle.plan.specs.View.{plan_lists}
use Rattle.entries.specs.Entries.{first_of, second_of, weight_of}
use Rattle.entries.specs.Calls.{edge_of, edges_of, overfull, check_counted, plan_counted}
use Rattle.entries.specs.declared.EdgeEntry.{EdgeEntry}

-- ---- the lists of entries

edges_from_lem : (es : List EdgeEntry) → edges_from (map first_of es) (map second_of es) (map weight_of es) ≡ edges_of es
edges_from_lem [] = refl
edges_from_lem (e ∷ es) = ap {B = List Edge} (λ (xs : List Edge). edge_of e ∷ xs) (edges_from_lem es)

one_length : (es : List EdgeEntry) → same_length (map first_of es) (map second_of es) (map weight_of es) ≡ true
unfolding same_length
one_length es = rw (length-map es first_of, length-map es second_of, length-map es weight_of, eq-eqb (length es) (length es) refl)

-- ---- over 2,048

intake_over : (n : ℕ) (edges : List Edge) (room : Room) → 2048 < length edges → intake n edges room ≡ refused (overfull n)
unfolding intake overfull
intake_over n edges room h = rw (lt-ltb 2048 (length edges) h) (by_nodes (ltb 64 n))
  where
    by_nodes : (t : Bool) → (if t then refused NODES else refused EDGES) ≡ refused (if t then NODES else EDGES)
    by_nodes true = refl
    by_nodes false = refl

module _ (n count : ℕ) (first second : List ℕ) (weight : List ℤ) (flag : Bool) where
  module _ (C : Certificate) where
    pub check_over : 2048 < count → check_counted n count first second weight flag C ≡ DECLINED (overfull n)
    unfolding check_counted
    check_over h = rw (lt-ltb 2048 count h)

    pub check_within : count ≤ 2048 → check_counted n count first second weight flag C ≡ check_lists n first second weight flag C
    unfolding check_counted
    check_within h = rw (le-ltb 2048 count h)

  module _ (room : Room) (budget : ℕ) where
    pub plan_over : 2048 < count → plan_counted room n count first second weight flag budget ≡ cleared room (REFUSED (overfull n)) 0
    unfolding plan_counted
    plan_over h = rw (lt-ltb 2048 count h)

    pub plan_within : count ≤ 2048 → plan_counted room n count first second weight flag budget ≡ plan_lists room n first second weight flag budget
    unfolding plan_counted
    plan_within h = rw (le-ltb 2048 count h)

-- an answer with lists that are cleared is a plan with nothing in it
pub refused_plan : (m d p : ℕ) {mates parents : List ℕ} {duals : List ℤ}
    → mates ≡ replicate m missing → duals ≡ replicate d (pos 0) → parents ≡ replicate p missing → {a b : Refusal} → a ≡ b
    → record { answer = REFUSED a; steps = 0; mates = mates; duals = duals; parents = parents }
    ≡ cleared (record { mates = m; duals = d; parents = p }) (REFUSED b) 0
unfolding cleared
refused_plan m d p hm hd hp h = λ i. record { answer = REFUSED (h i); steps = 0; mates = hm i; duals = hd i; parents = hp i }

-- ---- the calls on a list of entries

module _ (n : ℕ) (es : List EdgeEntry) (flag : Bool) where
  by_count : {A : Type 0} (a b : A) → (2048 < length es → a ≡ b) → (length es ≤ 2048 → a ≡ b) → a ≡ b
  by_count a b over within = by_test (leb (length es) 2048) refl
    where
      by_test : (t : Bool) → leb (length es) 2048 ≡ t → a ≡ b
      by_test true h = within (leb→le (length es) 2048 (subst T (sym h) tt))
      by_test false h = over (nleb→lt (length es) 2048 (subst (λ (t : Bool). T (not t)) (sym h) tt))

  many : 2048 < length es → (room : Room) → intake n (edges_of es) room ≡ refused (overfull n)
  many h room = intake_over n (edges_of es) room (rw (length-map es edge_of) h)

  -- on the fields of the entries
  module _ (C : Certificate) where
    abbrev counted : Judgement
    counted = check_counted n (length es) (map first_of es) (map second_of es) (map weight_of es) flag C

    check_many : 2048 < length es → counted ≡ check n (edges_of es) flag C
    unfolding check check_after
    check_many h = rw (check_over n (length es) (map first_of es) (map second_of es) (map weight_of es) flag C h, many h (room_of C))

    check_few : length es ≤ 2048 → counted ≡ check n (edges_of es) flag C
    unfolding check_lists
    check_few h = rw (check_within n (length es) (map first_of es) (map second_of es) (map weight_of es) flag C h, one_length es, edges_from_lem es)

    pub check_entries : counted ≡ check n (edges_of es) flag C
    check_entries = by_count _ _ check_many check_few

  module _ (room : Room) (budget : ℕ) where
    abbrev counted_plan : Plan
    counted_plan = plan_counted room n (length es) (map first_of es) (map second_of es) (map weight_of es) flag budget

    plan_many : 2048 < length es → counted_plan ≡ plan room n (edges_of es) flag budget
    unfolding plan plan_after
    plan_many h = rw (plan_over n (length es) (map first_of es) (map second_of es) (map weight_of es) flag room budget h, many h room)

    plan_few : length es ≤ 2048 → counted_plan ≡ plan room n (edges_of es) flag budget
    unfolding plan_lists
    plan_few h = rw (plan_within n (length es) (map first_of es) (map second_of es) (map weight_of es) flag room budget h, one_length es, edges_from_lem es)

    pub plan_entries : counted_plan ≡ plan room n (edges_of es) flag budget
    plan_entries = by_count _ _ plan_many plan_few
