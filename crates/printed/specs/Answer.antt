-- The printed answer: `pair`'s output from the reader's refusal, or from the plan and the edges. Definitions only.
use Rattle.std.specs.Prelude.{if◌then◌else◌, List, [], ◌∷◌, ◌++◌, ℕ, ◌/◌, ltb, ℤ, length}
use Rattle.laws.specs.Lists.{total}
use Rattle.matching.specs.Graph.{Graph, nodes_of, node_at, weight_of, is_missing}
use Rattle.matching.specs.Certificate.{mate_of}
use Rattle.steps.specs.Refusals.{Refusal, NODES, EDGES, BUFFER, END, LOOP, WEIGHT}
use Rattle.steps.specs.Plan.{Plan, Answer, DONE, STEPS, FAULT, REFUSED, answer_place}
use Rattle.records.specs.Site as site
use Rattle.printed.specs.Text.{decimal, signed_decimal, line}

-- ---- names

abbrev pub name_done : List ℕ
name_done = 68 ∷ 79 ∷ 78 ∷ 69 ∷ []

abbrev pub name_nodes : List ℕ
name_nodes = 78 ∷ 79 ∷ 68 ∷ 69 ∷ 83 ∷ []

abbrev pub name_edges : List ℕ
name_edges = 69 ∷ 68 ∷ 71 ∷ 69 ∷ 83 ∷ []

abbrev pub name_end : List ℕ
name_end = 69 ∷ 78 ∷ 68 ∷ []

abbrev pub name_loop : List ℕ
name_loop = 76 ∷ 79 ∷ 79 ∷ 80 ∷ []

abbrev pub name_weight : List ℕ
name_weight = 87 ∷ 69 ∷ 73 ∷ 71 ∷ 72 ∷ 84 ∷ []

abbrev pub name_buffer : List ℕ
name_buffer = 66 ∷ 85 ∷ 70 ∷ 70 ∷ 69 ∷ 82 ∷ []

abbrev pub name_steps : List ℕ
name_steps = 83 ∷ 84 ∷ 69 ∷ 80 ∷ 83 ∷ []

abbrev pub name_fault : List ℕ
name_fault = 70 ∷ 65 ∷ 85 ∷ 76 ∷ 84 ∷ []

abbrev pub name_kind : List ℕ
name_kind = 75 ∷ 73 ∷ 78 ∷ 68 ∷ []

abbrev pub name_cut : List ℕ
name_cut = 67 ∷ 85 ∷ 84 ∷ []

abbrev pub name_order : List ℕ
name_order = 79 ∷ 82 ∷ 68 ∷ 69 ∷ 82 ∷ []

abbrev pub name_time : List ℕ
name_time = 84 ∷ 73 ∷ 77 ∷ 69 ∷ []

abbrev pub name_long : List ℕ
name_long = 76 ∷ 79 ∷ 78 ∷ 71 ∷ []

abbrev pub refusal_name : Refusal → List ℕ
refusal_name NODES = name_nodes
refusal_name EDGES = name_edges
refusal_name (END e) = name_end
refusal_name (LOOP e) = name_loop
refusal_name (WEIGHT e) = name_weight
refusal_name BUFFER = name_buffer

abbrev pub complaint_name : site.Complaint → List ℕ
complaint_name site.NODES = name_nodes
complaint_name site.EDGES = name_edges
complaint_name site.BUFFER = name_buffer
complaint_name site.KIND = name_kind
complaint_name site.CUT = name_cut
complaint_name site.ORDER = name_order
complaint_name site.TIME = name_time
complaint_name site.LONG = name_long

-- ---- pairs

pub record Pair : Type 0 where
  pub lower : ℕ
  pub higher : ℕ
  pub weight : ℤ

-- the pair whose lower node is v
unfoldable pub pair_at : Graph → (mates : List ℕ) → ℕ → List Pair
pair_at G mates v =
    let p = mate_of mates v in
    let u = node_at G p in
    if is_missing p then []
    else if ltb v u then record { lower = v; higher = u; weight = weight_of G (p / 2) } ∷ []
    else []

unfoldable pub pairs_at : Graph → (mates : List ℕ) → (nodes : List ℕ) → List Pair
pairs_at G mates [] = []
pairs_at G mates (v ∷ vs) = pair_at G mates v ++ pairs_at G mates vs

-- ascending by lower node
abbrev pub pairs_of : Graph → (mates : List ℕ) → List Pair
pairs_of G mates = pairs_at G mates (nodes_of G)

-- ---- the output

-- anything but DONE: name and place
unfoldable pub printed_other : (name : List ℕ) → (place : ℕ) → List ℕ
printed_other name place = line name (decimal place ∷ [])

abbrev pub printed_complaint : site.Complaint → (place : ℕ) → List ℕ
printed_complaint c place = printed_other (complaint_name c) place

-- lower node, higher node, weight
unfoldable pub pair_line : Pair → List ℕ
pair_line x = line (decimal x.lower) (decimal x.higher ∷ signed_decimal x.weight ∷ [])

unfoldable pub pair_lines : List Pair → List ℕ
pair_lines [] = []
pair_lines (x ∷ xs) = pair_line x ++ pair_lines xs

-- name, pair count, total weight, steps; then each pair
unfoldable pub printed_done : List Pair → (steps : ℕ) → List ℕ
printed_done ps steps =
    line name_done (decimal (length ps) ∷ signed_decimal (total ps (λ x. x.weight)) ∷ decimal steps ∷ []) ++ pair_lines ps

unfoldable pub printed_answer : Graph → Plan → Answer → List ℕ
printed_answer G p DONE = printed_done (pairs_of G p.mates) p.steps
printed_answer G p STEPS = printed_other name_steps 0
printed_answer G p FAULT = printed_other name_fault 0
printed_answer G p (REFUSED r) = printed_other (refusal_name r) (answer_place (REFUSED r))

abbrev pub printed : Graph → Plan → List ℕ
printed G p = printed_answer G p p.answer
