-- The numbers that include/lotamife.h gives its names, in its order, by the definitions: the limits, the mark of what is missing, the answers
-- of the plan call and of the check call, and the conditions.
use Rattle.std.specs.Prelude.{List, [], ◌∷◌, ℕ}
use Rattle.matching.specs.Graph.{missing}
use Rattle.matching.specs.Certificate.{condition_number, MATE, PARENT, DUAL, EDGE, TIGHT, FREE, FULL}
use Rattle.matching.specs.Tests.{YES}
use Rattle.steps.specs.Refusals.{max_nodes, max_edges, max_weight, refusal_number, NODES, EDGES, BUFFER, END, LOOP, WEIGHT}
use Rattle.steps.specs.Plan.{answer_number, DONE, STEPS, FAULT}
use Rattle.steps.specs.Check.{verdict_number}

abbrev pub header_numbers : List ℕ
header_numbers =
    max_nodes ∷ max_edges ∷ max_weight ∷ missing
    ∷ answer_number DONE ∷ verdict_number YES
    ∷ refusal_number NODES ∷ refusal_number EDGES
    ∷ refusal_number (END 0) ∷ refusal_number (LOOP 0) ∷ refusal_number (WEIGHT 0)
    ∷ refusal_number BUFFER
    ∷ answer_number STEPS ∷ answer_number FAULT
    ∷ condition_number MATE ∷ condition_number PARENT ∷ condition_number DUAL
    ∷ condition_number EDGE ∷ condition_number TIGHT ∷ condition_number FREE ∷ condition_number FULL
    ∷ []
