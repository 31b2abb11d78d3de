-- The check call: the same refusals, then the verdict on the first n mates, 2n duals and 2n parents. It reads its lists only.
-- Definitions only.
use Rattle.std.specs.Prelude.{Bool, List, ℕ, ◌*◌, length, take}
use Rattle.matching.specs.Graph.{Graph, graph_of, Edge}
use Rattle.matching.specs.Certificate.{Certificate, condition_number}
use Rattle.matching.specs.Tests.{Verdict, YES, NO, verdict}
use Rattle.steps.specs.Refusals.{Refusal, refusal_number, refusal_place, Intake, fine, refused, Room, intake}

pub data Judgement : Type 0 where
  JUDGED : Verdict → Judgement
  DECLINED : Refusal → Judgement

abbrev pub verdict_number : Verdict → ℕ
verdict_number YES = 0
verdict_number (NO c) = condition_number c

abbrev pub judgement_number : Judgement → ℕ
judgement_number (JUDGED v) = verdict_number v
judgement_number (DECLINED r) = refusal_number r

abbrev pub judgement_place : Judgement → ℕ
judgement_place (JUDGED v) = 0
judgement_place (DECLINED r) = refusal_place r

unfoldable pub room_of : Certificate → Room
room_of C = record { mates = length C.mates; duals = length C.duals; parents = length C.parents }

-- what the check reads of the lists
unfoldable pub read_of : (n : ℕ) → Certificate → Certificate
read_of n C = record { mates = take n C.mates; duals = take (2 * n) C.duals; parents = take (2 * n) C.parents }

unfoldable pub check_after : Graph → (flag : Bool) → Certificate → Intake → Judgement
check_after G flag C fine = JUDGED (verdict G flag (read_of G.nodes C))
check_after G flag C (refused r) = DECLINED r

unfoldable pub check : (n : ℕ) → List Edge → (flag : Bool) → Certificate → Judgement
check n edges flag C = check_after (graph_of n edges) flag C (intake n edges (room_of C))
