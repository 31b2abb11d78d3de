-- Rows of our own beside P1 to P13. First plans, on the routines that those do not reach: turning a group, expanding one at the close of
-- a stage and within one, groups within groups; their results are those of the source's own run on the same edges. Then certificates.
use mathlib.Core.Path.{◌≡◌, refl}
use mathlib.Core.Bool.{true, false}
use mathlib.Core.List.{List, [], ◌∷◌, ◌++◌}
use Prim.Native.Nat.{ℕ}
use lib.IntN.{ℤ, pos, negsuc}
use Rattle.matching.specs.Graph.{edge, missing}
use Rattle.matching.specs.Certificate.{Certificate, MATE, PARENT, DUAL, FREE, FULL}
use Rattle.matching.specs.Tests.{YES, NO}
use Rattle.steps.specs.Table.{Row, results, expected, check_call, plain, flagged, done, plans, judges, none, zeros}
use Rattle.steps.proofs.Computed.{computed, holds}

-- a group is turned by an augmentation, and stays, with a dual above 0
abbrev w1 : Row
w1 =
    plans
    (plain 4
    (edge 0 1 (pos 8) ∷ edge 0 2 (pos 9) ∷ edge 1 2 (pos 10) ∷ edge 2 3 (pos 7) ∷ []))
    (done 18
    (1 ∷ 0 ∷ 7 ∷ 6 ∷ [])
    (pos 5 ∷ pos 7 ∷ pos 9 ∷ pos 5 ∷ [])
    (pos 0 ∷ pos 0 ∷ pos 0 ∷ pos 2 ∷ [])
    (7 ∷ 7 ∷ 7 ∷ none 5))

-- a group within a group: the outer turns the inner
abbrev w2 : Row
w2 =
    plans
    (plain 6
    (edge 0 1 (pos 9) ∷ edge 0 2 (pos 9) ∷ edge 1 2 (pos 10) ∷ edge 1 3 (pos 8) ∷ edge 2 4 (pos 8) ∷
    edge 3 4 (pos 10) ∷ edge 4 5 (pos 6) ∷ []))
    (done 24
    (3 ∷ 7 ∷ 2 ∷ 6 ∷ 13 ∷ 12 ∷ [])
    (pos 3 ∷ pos 5 ∷ pos 5 ∷ pos 9 ∷ pos 9 ∷ pos 3 ∷ [])
    (pos 0 ∷ pos 0 ∷ pos 0 ∷ pos 0 ∷ pos 1 ∷ pos 4 ∷ [])
    (11 ∷ 11 ∷ 11 ∷ 10 ∷ 10 ∷ missing ∷ missing ∷ missing ∷ missing ∷ missing ∷ missing ∷ 10 ∷ []))

-- a group within a group, both with dual 0: expanded at the close of the stage
abbrev w3 : Row
w3 =
    plans
    (plain 8
    (edge 0 1 (pos 8) ∷ edge 0 2 (pos 8) ∷ edge 1 2 (pos 10) ∷ edge 1 3 (pos 12) ∷ edge 2 4 (pos 12) ∷
    edge 3 4 (pos 14) ∷ edge 3 5 (pos 12) ∷ edge 4 6 (pos 12) ∷ edge 5 6 (pos 14) ∷ edge 6 7 (pos 12) ∷ []))
    (done 28
    (1 ∷ 0 ∷ 9 ∷ 13 ∷ 8 ∷ 12 ∷ 19 ∷ 18 ∷ [])
    (pos 6 ∷ pos 10 ∷ pos 10 ∷ pos 14 ∷ pos 14 ∷ pos 10 ∷ pos 18 ∷ pos 6 ∷ [])
    (zeros 8)
    (none 16))

-- a label-2 group is expanded within a stage (type 4)
abbrev w4 : Row
w4 =
    plans
    (plain 8
    (edge 0 1 (pos 23) ∷ edge 0 4 (pos 22) ∷ edge 0 5 (pos 15) ∷ edge 1 2 (pos 25) ∷ edge 2 3 (pos 22) ∷
    edge 3 4 (pos 25) ∷ edge 3 7 (pos 14) ∷ edge 4 6 (pos 13) ∷ []))
    (done 43
    (5 ∷ 7 ∷ 6 ∷ 13 ∷ 15 ∷ 4 ∷ 14 ∷ 12 ∷ [])
    (pos 20 ∷ pos 29 ∷ pos 21 ∷ pos 26 ∷ pos 24 ∷ pos 10 ∷ pos 2 ∷ pos 2 ∷ [])
    (zeros 8)
    (none 16))

-- a label-2 group of five is expanded within a stage, and its children get labels anew
abbrev w5 : Row
w5 =
    plans
    (plain 10
    (edge 0 1 (pos 45) ∷ edge 0 4 (pos 45) ∷ edge 1 2 (pos 50) ∷ edge 2 3 (pos 45) ∷ edge 3 4 (pos 50) ∷
    edge 0 5 (pos 30) ∷ edge 2 8 (pos 35) ∷ edge 3 7 (pos 35) ∷ edge 4 6 (pos 26) ∷ edge 8 9 (pos 5) ∷ []))
    (done 56
    (11 ∷ 5 ∷ 4 ∷ 15 ∷ 17 ∷ 10 ∷ 16 ∷ 14 ∷ 19 ∷ 18 ∷ [])
    (pos 55 ∷ pos 35 ∷ pos 65 ∷ pos 59 ∷ pos 41 ∷ pos 5 ∷ pos 11 ∷ pos 11 ∷ pos 5 ∷ pos 5 ∷ [])
    (zeros 10)
    (none 20))

-- a label-2 group that holds a group is expanded within a stage: the inner one stays
abbrev w6 : Row
w6 =
    plans
    (plain 12
    (edge 0 1 (pos 45) ∷ edge 0 6 (pos 45) ∷ edge 1 2 (pos 50) ∷ edge 2 3 (pos 45) ∷ edge 3 4 (pos 95) ∷
    edge 3 5 (pos 94) ∷ edge 4 5 (pos 94) ∷ edge 5 6 (pos 50) ∷ edge 0 7 (pos 30) ∷ edge 2 10 (pos 35) ∷
    edge 4 8 (pos 36) ∷ edge 6 9 (pos 26) ∷ edge 10 11 (pos 5) ∷ []))
    (done 78
    (17 ∷ 5 ∷ 4 ∷ 11 ∷ 21 ∷ 10 ∷ 23 ∷ 16 ∷ 20 ∷ 22 ∷ 25 ∷ 24 ∷ [])
    (pos 55 ∷ pos 35 ∷ pos 65 ∷ pos 61 ∷ pos 61 ∷ pos 59 ∷ pos 41 ∷ pos 5 ∷ pos 11 ∷ pos 11 ∷ pos 5 ∷ pos 5 ∷ [])
    (pos 0 ∷ pos 0 ∷ pos 0 ∷ pos 0 ∷ pos 0 ∷ pos 0 ∷ pos 0 ∷ pos 0 ∷ pos 0 ∷ pos 0 ∷ pos 0 ∷ pos 34 ∷ [])
    (missing ∷ missing ∷ missing ∷ 23 ∷ 23 ∷ 23 ∷ none 18))

-- candidate edges in order of first insertion, a replaced one in its place: in another order other duals come out
abbrev w7 : Row
w7 =
    plans
    (plain 5
    (edge 4 3 (pos 7) ∷ edge 3 0 (pos 6) ∷ edge 4 1 (pos 4) ∷ edge 3 1 (pos 12) ∷ edge 1 0 (pos 9) ∷
    edge 2 1 (pos 12) ∷ edge 0 4 (pos 5) ∷ edge 0 2 (pos 3) ∷ edge 2 3 (pos 10) ∷ edge 4 2 (pos 4) ∷ []))
    (done 24
    (8 ∷ 9 ∷ 17 ∷ 16 ∷ missing ∷ [])
    (pos 0 ∷ pos 8 ∷ pos 4 ∷ pos 4 ∷ pos 0 ∷ [])
    (pos 0 ∷ pos 0 ∷ pos 0 ∷ pos 5 ∷ pos 1 ∷ [])
    (8 ∷ 9 ∷ 9 ∷ 9 ∷ 8 ∷ missing ∷ missing ∷ missing ∷ missing ∷ 8 ∷ []))

-- the last stage is not closed: the group of dual 0 stays among the parents
abbrev w8 : Row
w8 =
    plans
    (flagged 3 (edge 0 2 (pos 3) ∷ edge 1 2 (pos 0) ∷ edge 1 0 (pos 1) ∷ []))
    (done 12 (1 ∷ missing ∷ 0 ∷ []) (pos 4 ∷ negsuc 1 ∷ pos 2 ∷ []) (zeros 3) (5 ∷ 5 ∷ 5 ∷ none 3))

-- ---- certificates that decide a reading of document 01

abbrev as_certificate : List ℕ → List ℤ → List ℕ → Certificate
as_certificate m d p = record { mates = m; duals = d; parents = p }

abbrev alone : (d : ℤ) → (parent : ℕ) → Certificate
alone d parent = as_certificate (none 1) (d ∷ pos 0 ∷ []) (missing ∷ parent ∷ [])

-- FULL counts nodes: a group of five whose inner group, of dual 0, holds no pair. The pairs 3-4 and 0-1 would weigh more
abbrev c1 : Row
c1 =
    judges
    (check_call 5 (edge 3 4 (pos 1) ∷ edge 0 1 (pos 1) ∷ []) false
    (as_certificate (missing ∷ missing ∷ missing ∷ 1 ∷ 0 ∷ []) (zeros 9 ++ (pos 1 ∷ [])) (8 ∷ 8 ∷ 8 ∷ 9 ∷ 9 ∷ missing ∷ missing ∷ missing ∷ 9 ∷ missing ∷ [])))
    (NO FULL)

-- PARENT: a group that names itself is never left
abbrev c2 : Row
c2 = judges (check_call 1 [] false (alone (pos 0) 1)) (NO PARENT)

-- DUAL: 2^52 is within, one more is not
abbrev c3 : Row
c3 = judges (check_call 1 [] true (alone (pos 4_503_599_627_370_496) missing)) (NO FREE)

abbrev c4 : Row
c4 = judges (check_call 1 [] true (alone (pos 4_503_599_627_370_497) missing)) (NO DUAL)

-- the check has no exception for no edges
abbrev c5 : Row
c5 = judges (check_call 1 [] false (alone (pos 1) missing)) (NO FREE)

-- MATE: a mate that names a parallel edge's end is answered by that edge's other end, and by no other
abbrev c6 : Row
c6 =
    judges
    (check_call 2 (edge 0 1 (pos 3) ∷ edge 0 1 (pos 7) ∷ []) false
    (as_certificate (1 ∷ 2 ∷ []) (pos 7 ∷ pos 7 ∷ zeros 2) (none 4)))
    (NO MATE)

-- FREE: with no nodes the offset is 0
abbrev c7 : Row
c7 = judges (check_call 0 [] true (as_certificate [] [] [])) YES

-- a mate beyond the first n is not read
abbrev c8 : Row
c8 = judges (check_call 1 [] false (as_certificate (missing ∷ 0 ∷ []) (zeros 3) (none 3))) YES

abbrev worked : List Row
worked = w1 ∷ w2 ∷ w3 ∷ w4 ∷ w5 ∷ w6 ∷ w7 ∷ w8 ∷ c1 ∷ c2 ∷ c3 ∷ c4 ∷ c5 ∷ c6 ∷ c7 ∷ c8 ∷ []

by_computing : computed worked ≡ expected worked
unfolding computed
by_computing = refl

pub worked_hold : results worked ≡ expected worked
worked_hold = holds worked by_computing
