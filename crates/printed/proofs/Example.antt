-- Document 01's example, from the site file's bytes to the printed bytes, by the definitions.
use mathlib.Core.Path.{◌≡◌, refl, ap, ◌∙◌}
use mathlib.Core.Bool.{false}
use mathlib.Core.List.{List, [], ◌∷◌}
use Prim.Native.Nat.{ℕ}
use lib.ListN.{get_or}
use Rattle.laws.specs.Lists.{range, total}
use Rattle.matching.specs.Graph.{graph_of, node_at, first_of, second_of, weight_of}
use Rattle.matching.specs.Certificate.{mate_of}
use Rattle.steps.specs.Plan.{Plan, plan}
use Rattle.steps.specs.Table.{Result, planned, result, exactly, path, plan8}
use Rattle.steps.proofs.Table.{table_holds}
use Rattle.printed.specs.Text.{digits, decimal}
use Rattle.printed.specs.Answer.{pair_at, pairs_at, printed_other, pair_line, pair_lines, printed_done, printed_answer, printed}

-- `DONE 1 11 8` and `1 2 11`
abbrev pub text : List ℕ
text =
    0x44 ∷ 0x4F ∷ 0x4E ∷ 0x45 ∷ 0x20 ∷ 0x31 ∷ 0x20 ∷ 0x31 ∷ 0x31 ∷ 0x20 ∷ 0x38 ∷ 0x0A ∷ 0x31 ∷ 0x20 ∷ 0x32 ∷ 0x20 ∷ 0x31 ∷ 0x31 ∷ 0x0A ∷ []

unfoldable pub prints : Plan → List ℕ
unfolding range total node_at first_of second_of weight_of mate_of digits decimal pair_at pairs_at printed_other pair_line pair_lines
    printed_done printed_answer
prints p = printed (graph_of 4 path) p

plan8_prints : prints plan8 ≡ text
unfolding prints
plan8_prints = refl

-- row P8 of the table: the plan of the example's edges
planned_plan : Result → Plan → Plan
planned_plan (planned p) q = p
planned_plan (Result.checked j) q = q

pub example_plan : plan (exactly 4) 4 path false 160 ≡ plan8
unfolding result planned_plan
example_plan = ap (λ (r : Result). planned_plan r plan8) (ap (λ (l : List Result). get_or l 7 (planned plan8)) table_holds)

pub example_prints : prints (plan (exactly 4) 4 path false 160) ≡ text
example_prints = ap prints example_plan ∙ plan8_prints
