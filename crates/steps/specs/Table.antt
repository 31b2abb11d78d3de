-- The small junctions worked out, P1 to P13, as one table of calls and results. `proofs/Table.antt` proves that each call gives its result.
-- Each result states the answer, the steps and all three lent lists over their whole length, or the judgement.
use Rattle.std.specs.Prelude.{Bool, true, false, List, [], ◌∷◌, ◌++◌, map, ℕ, ◌+◌, ◌*◌, ℤ, pos, negsuc, replicate}
use Rattle.matching.specs.Graph.{Edge, edge, missing}
use Rattle.matching.specs.Certificate.{Certificate, DUAL}
use Rattle.matching.specs.Tests.{Verdict, YES, NO}
use Rattle.steps.specs.Refusals.{Room}
use Rattle.steps.specs.Plan.{Plan, DONE, STEPS, plan}
use Rattle.steps.specs.Check.{Judgement, JUDGED, check}

pub data Call : Type 0 where
  plan_call : (n : ℕ) → List Edge → (flag : Bool) → (budget : ℕ) → Call
  check_call : (n : ℕ) → List Edge → (flag : Bool) → Certificate → Call

pub data Result : Type 0 where
  planned : Plan → Result
  checked : Judgement → Result

-- lent lists of just n, 2n and 2n entries
abbrev pub exactly : ℕ → Room
exactly n = record { mates = n; duals = 2 * n; parents = 2 * n }

unfoldable pub result : Call → Result
result (plan_call n edges flag budget) = planned (plan (exactly n) n edges flag budget)
result (check_call n edges flag C) = checked (check n edges flag C)

pub record Row : Type 0 where
  pub asked : Call
  pub told : Result

abbrev pub results : List Row → List Result
results rows = map (λ (r : Row). result r.asked) rows

abbrev pub expected : List Row → List Result
expected rows = map (λ (r : Row). r.told) rows

-- ---- short forms

-- with flag 0 or 1, and the budget where none is said
abbrev pub plain : (n : ℕ) → List Edge → Call
plain n edges = plan_call n edges false (8 * n * (n + 1))

abbrev pub flagged : (n : ℕ) → List Edge → Call
flagged n edges = plan_call n edges true (8 * n * (n + 1))

-- the call ends DONE, with so many steps, these mates, node duals, group duals and parents
abbrev pub done : ℕ → List ℕ → List ℤ → List ℤ → List ℕ → Plan
done count mates node_duals group_duals parents =
    record { answer = DONE; steps = count; mates = mates; duals = node_duals ++ group_duals; parents = parents }

abbrev pub plans : Call → Plan → Row
plans c p = record { asked = c; told = planned p }

abbrev pub judges : Call → Verdict → Row
judges c v = record { asked = c; told = checked (JUDGED v) }

abbrev pub none : ℕ → List ℕ
none k = replicate k missing

abbrev pub zeros : ℕ → List ℤ
zeros k = replicate k (pos 0)

abbrev pub minus_one : ℤ
minus_one = negsuc 0

abbrev pub certificate : Plan → Certificate
certificate p = record { mates = p.mates; duals = p.duals; parents = p.parents }

-- ---- the rows

-- P1: n 0, no edges: DONE, 0 steps
abbrev pub p1 : Row
p1 = plans (plain 0 []) (done 0 [] [] [] [])

-- P2: n 3, no edges, budget 0: DONE, no pair
abbrev pub p2 : Row
p2 = plans (plan_call 3 [] false 0) (done 0 (none 3) (zeros 3) (zeros 3) (none 6))

-- P3: 0-1 weight 5: pair, duals 5 5, 5 steps
abbrev pub p3 : Row
p3 = plans (plain 2 (edge 0 1 (pos 5) ∷ [])) (done 5 (1 ∷ 0 ∷ []) (pos 5 ∷ pos 5 ∷ []) (zeros 2) (none 4))

-- P4: 0-1 weight 0: pair, duals 0 0, 5 steps
abbrev pub p4 : Row
p4 = plans (plain 2 (edge 0 1 (pos 0) ∷ [])) (done 5 (1 ∷ 0 ∷ []) (pos 0 ∷ pos 0 ∷ []) (zeros 2) (none 4))

-- P5: 0-1 weight -1: no pair, 4 steps
abbrev pub p5 : Row
p5 = plans (plain 2 (edge 0 1 minus_one ∷ [])) (done 4 (none 2) (zeros 2) (zeros 2) (none 4))

-- P6: P5 with flag: pair, duals -1 -1, 8 steps
abbrev pub p6 : Row
p6 =
    plans (flagged 2 (edge 0 1 minus_one ∷ []))
    (done 8 (1 ∷ 0 ∷ []) (minus_one ∷ minus_one ∷ []) (zeros 2) (none 4))

abbrev pub triangle : List Edge
triangle = edge 0 1 (pos 4) ∷ edge 1 2 (pos 4) ∷ edge 0 2 (pos 4) ∷ []

-- P7: 0-1, 1-2, 0-2, all 4: pair 1-2, node duals 0, group 5 dual 4, 8 steps
abbrev pub p7 : Row
p7 =
    plans (plain 3 triangle)
    (done 8 (missing ∷ 3 ∷ 2 ∷ []) (zeros 3) (pos 0 ∷ pos 0 ∷ pos 4 ∷ []) (5 ∷ 5 ∷ 5 ∷ none 3))

abbrev pub path : List Edge
path = edge 0 1 (pos 5) ∷ edge 1 2 (pos 11) ∷ edge 2 3 (pos 5) ∷ []

abbrev pub plan8 : Plan
plan8 = done 8 (missing ∷ 3 ∷ 2 ∷ missing ∷ []) (pos 0 ∷ pos 11 ∷ pos 11 ∷ pos 0 ∷ []) (zeros 4) (none 8)

-- P8: 0-1 5, 1-2 11, 2-3 5: pair 1-2, duals 0 11 11 0, 8 steps
abbrev pub p8 : Row
p8 = plans (plain 4 path) plan8

abbrev pub plan9 : Plan
plan9 = done 13 (1 ∷ 0 ∷ 5 ∷ 4 ∷ []) (minus_one ∷ pos 11 ∷ pos 11 ∷ minus_one ∷ []) (zeros 4) (none 8)

-- P9: P8 with flag: 0-1 and 2-3, duals -1 11 11 -1, 13 steps
abbrev pub p9 : Row
p9 = plans (flagged 4 path) plan9

-- P10: P6, budget 7: STEPS, lists cleared
abbrev pub p10 : Row
p10 =
    plans (plan_call 2 (edge 0 1 minus_one ∷ []) true 7)
    (record { answer = STEPS; steps = 7; mates = none 2; duals = zeros 4; parents = none 4 })

-- P11: check P8's certificate with flag: YES
abbrev pub p11 : Row
p11 = judges (check_call 4 path true (certificate plan8)) YES

-- P12: check P9's without flag: NO, DUAL
abbrev pub p12 : Row
p12 = judges (check_call 4 path false (certificate plan9)) (NO DUAL)

-- P13: 0-1 3, again 0-1 7: pair of weight 7, 5 steps
abbrev pub p13 : Row
p13 =
    plans (plain 2 (edge 0 1 (pos 3) ∷ edge 0 1 (pos 7) ∷ []))
    (done 5 (3 ∷ 2 ∷ []) (pos 7 ∷ pos 7 ∷ []) (zeros 2) (none 4))

abbrev pub table : List Row
table = p1 ∷ p2 ∷ p3 ∷ p4 ∷ p5 ∷ p6 ∷ p7 ∷ p8 ∷ p9 ∷ p10 ∷ p11 ∷ p12 ∷ p13 ∷ []
