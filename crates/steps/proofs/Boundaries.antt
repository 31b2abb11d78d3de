-- Both sides of every limit, computed: what is taken, and the number and place of what is refused.
use mathlib.Core.Path.{◌≡◌, refl}
use mathlib.Core.List.{List, [], ◌∷◌, ◌++◌}
use Prim.Native.Nat.{ℕ}
use lib.IntN.{pos, negsuc}
use lib.ListN.{replicate}
use Rattle.matching.specs.Graph.{Edge, edge}
use Rattle.steps.specs.Refusals.{refusal_number, refusal_place, Intake, fine, refused, Room, edge_intake, edges_intake, too_short, intake}
use Rattle.steps.specs.Table.{exactly}

-- number and place of a refusal; nothing where it is taken
abbrev told : Intake → List ℕ
told fine = []
told (refused r) = refusal_number r ∷ refusal_place r ∷ []

abbrev room : ℕ → ℕ → ℕ → Room
room m d p = record { mates = m; duals = d; parents = p }

-- 0-1 so often, and an edge after them
abbrev many : ℕ → Edge → List Edge
many k x = replicate k (edge 0 1 (pos 0)) ++ (x ∷ [])

-- an edge with an end of 4, a loop, and a weight too large, of which each comes alone and before the next
abbrev beyond : Edge
beyond = edge 4 4 (pos 1_000_000_001)

abbrev loop : Edge
loop = edge 3 3 (negsuc 1_000_000_000)

pub asked : List (List ℕ)
unfolding intake too_short edges_intake edge_intake
asked =
    told (intake 64 [] (exactly 64)) ∷ told (intake 65 [] (exactly 65)) ∷
    told (intake 2 (many 2047 (edge 1 0 (pos 0))) (exactly 2)) ∷ told (intake 2 (many 2048 (edge 1 0 (pos 0))) (exactly 2)) ∷
    told (intake 4 [] (room 4 8 8)) ∷ told (intake 4 [] (room 3 8 8)) ∷ told (intake 4 [] (room 4 7 8)) ∷ told (intake 4 [] (room 4 8 7)) ∷
    told (intake 65 (many 2048 beyond) (room 0 0 0)) ∷ told (intake 4 (many 2048 beyond) (room 0 0 0)) ∷ told (intake 4 (beyond ∷ []) (room 0 0 0)) ∷
    told (intake 4 (many 2 (edge 3 0 (pos 1))) (exactly 4)) ∷ told (intake 4 (many 2 (edge 4 0 (pos 1))) (exactly 4)) ∷
    told (intake 4 (many 3 (edge 0 4 (pos 1))) (exactly 4)) ∷
    told (intake 4 (many 2 beyond) (exactly 4)) ∷ told (intake 4 (many 2 loop) (exactly 4)) ∷
    told (intake 4 (many 1 (edge 0 1 (pos 1_000_000_000))) (exactly 4)) ∷ told (intake 4 (many 1 (edge 0 1 (pos 1_000_000_001))) (exactly 4)) ∷
    told (intake 4 (many 1 (edge 0 1 (negsuc 999_999_999))) (exactly 4)) ∷ told (intake 4 (many 1 (edge 0 1 (negsuc 1_000_000_000))) (exactly 4)) ∷
    []

pub limits_hold : asked
    ≡ [] ∷ (1 ∷ 0 ∷ []) ∷
    [] ∷ (2 ∷ 0 ∷ []) ∷
    [] ∷ (6 ∷ 0 ∷ []) ∷ (6 ∷ 0 ∷ []) ∷ (6 ∷ 0 ∷ []) ∷
    (1 ∷ 0 ∷ []) ∷ (2 ∷ 0 ∷ []) ∷ (6 ∷ 0 ∷ []) ∷
    [] ∷ (3 ∷ 2 ∷ []) ∷ (3 ∷ 3 ∷ []) ∷
    (3 ∷ 2 ∷ []) ∷ (4 ∷ 2 ∷ []) ∷
    [] ∷ (5 ∷ 1 ∷ []) ∷
    [] ∷ (5 ∷ 1 ∷ []) ∷
    []
unfolding asked
limits_hold = refl
