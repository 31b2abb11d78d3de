-- One dual adjustment with what follows it: types 1 to 4 as in the source.
-- Definitions only.
use Rattle.std.specs.Prelude.{if◌then◌else◌, Bool, true, false, not, ◌&&◌, List, [], ◌∷◌, ℕ, ◌*◌, ℤ, pos, nat_abs, ◌+ℤ◌, ◌-ℤ◌, eqb, leb, take}
use Rattle.std.specs.Int.Signed.{lt_z}
use Rattle.laws.specs.Integers.{is_even, half, greater, least_from}
use Rattle.laws.specs.Run.{Run, ok, fault, ◌>>=◌, must, only_if, for_range, at}
use Rattle.matching.specs.Graph.{Graph, Edge, is_missing}
use Rattle.matching.specs.Certificate.{max_dual}
use Rattle.steps.specs.Ends.{slack_of}
use Rattle.steps.specs.State.{State, ended}
use Rattle.steps.specs.Stores.{with_phase, put_dual, put_allowed}
use Rattle.steps.specs.Label.{enqueue}
use Rattle.steps.specs.Expand.{expand_top}

-- ---- delta

-- the least amount found so far: its type, and the edge (types 2 and 3) or group (type 4) that gave it
pub data Delta : Type 0 where
  no_delta : Delta
  type1 : ℤ → Delta
  type2 type3 type4 : ℤ → ℕ → Delta

-- delta_type == -1 || d < delta
abbrev pub less_than : ℤ → Delta → Bool
less_than d no_delta = true
less_than d (type1 a) = lt_z d a
less_than d (type2 a e) = lt_z d a
less_than d (type3 a e) = lt_z d a
less_than d (type4 a b) = lt_z d a

-- the least of a list that is not empty
unfoldable pub least_dual : List ℤ → Run ℤ
least_dual [] = fault
least_dual (d ∷ ds) = ok (least_from d ds)

-- without the flag: the least node dual
unfoldable pub delta1 : Graph → (flag : Bool) → State → Run Delta
delta1 G flag s =
    if flag then ok no_delta else (least_dual (take G.nodes s.pairing.duals) >>= λ d. ok (type1 d))

unfoldable pub offer2 : Graph → State → ℕ → Delta → Run Delta
offer2 G s e best = do
  d ← slack_of G s.pairing.duals e
  ok (if less_than d best then type2 d e else best)

-- an edge from a label-1 group to node v, which is free
unfoldable pub delta2_at : Graph → State → ℕ → Delta → Run Delta
delta2_at G s v best = do
  t ← at s.forest.tops v
  l ← at s.labelling.labels t
  e ← at s.labelling.best v
  only_if (eqb l 0 && not (is_missing e)) (offer2 G s e) best

unfoldable pub offer3 : Graph → State → ℕ → Delta → Run Delta
offer3 G s e best = do
  k ← slack_of G s.pairing.duals e
  _ ← must (is_even k)
  let d = half k
  ok (if less_than d best then type3 d e else best)

-- an edge between two label-1 groups, of which b is one
unfoldable pub delta3_at : Graph → State → ℕ → Delta → Run Delta
delta3_at G s b best = do
  p ← at s.forest.parents b
  l ← at s.labelling.labels b
  e ← at s.labelling.best b
  only_if (is_missing p && eqb l 1 && not (is_missing e)) (offer3 G s e) best

-- b is a group in use, and outermost
unfoldable pub is_outermost : State → ℕ → Run Bool
is_outermost s b = do
  base ← at s.forest.bases b
  p ← at s.forest.parents b
  ok (not (is_missing base) && is_missing p)

-- the dual of an outermost label-2 group
unfoldable pub delta4_at : State → ℕ → Delta → Run Delta
delta4_at s b best = do
  outermost ← is_outermost s b
  l ← at s.labelling.labels b
  d ← at s.pairing.duals b
  ok (if outermost && eqb l 2 && less_than d best then type4 d b else best)

-- no candidate under the flag: the larger of 0 and the least node dual
unfoldable pub delta_last : Graph → State → Delta → Run Delta
delta_last G s no_delta = least_dual (take G.nodes s.pairing.duals) >>= λ d. ok (type1 (greater (pos 0) d))
delta_last G s (type1 d) = ok (type1 d)
delta_last G s (type2 d e) = ok (type2 d e)
delta_last G s (type3 d e) = ok (type3 d e)
delta_last G s (type4 d b) = ok (type4 d b)

unfoldable pub choose_delta : Graph → (flag : Bool) → State → Run Delta
choose_delta G flag s = do
  d ← delta1 G flag s
  d ← for_range (delta2_at G s) 0 G.nodes d
  d ← for_range (delta3_at G s) 0 (2 * G.nodes) d
  d ← for_range (delta4_at s) G.nodes G.nodes d
  delta_last G s d

-- ---- the duals

-- a dual may not leave -2^52 to 2^52
unfoldable pub put_fit_dual : ℕ → ℤ → State → Run State
put_fit_dual i d s = do
  _ ← must (leb (nat_abs d) max_dual)
  put_dual i d s

-- a node of a label-1 group loses delta, of a label-2 group gains it
unfoldable pub move_node : ℤ → ℕ → State → Run State
move_node delta v s = do
  t ← at s.forest.tops v
  l ← at s.labelling.labels t
  d ← at s.pairing.duals v
  if eqb l 1 then put_fit_dual v (d -ℤ delta) s else if eqb l 2 then put_fit_dual v (d +ℤ delta) s else ok s

-- an outermost label-1 group gains delta, a label-2 group loses it
unfoldable pub move_group : ℤ → ℕ → State → Run State
move_group delta b s = do
  outermost ← is_outermost s b
  l ← at s.labelling.labels b
  d ← at s.pairing.duals b
  if outermost && eqb l 1 then put_fit_dual b (d +ℤ delta) s
      else if outermost && eqb l 2 then put_fit_dual b (d -ℤ delta) s else ok s

unfoldable pub move_duals : Graph → ℤ → State → Run State
move_duals G delta s = do
  s ← for_range (move_node delta) 0 G.nodes s
  for_range (move_group delta) G.nodes G.nodes s

-- ---- what follows

-- node v, of a label-1 group, is queued
unfoldable pub resume : Graph → ℕ → State → Run State
resume G v s = do
  t ← at s.forest.tops v
  l ← at s.labelling.labels t
  _ ← must (eqb l 1)
  enqueue G v s

-- the edge's end in a label-1 group: the second where the first is free
unfoldable pub labelled_end : State → Edge → Run ℕ
labelled_end s x = do
  t ← at s.forest.tops x.first
  l ← at s.labelling.labels t
  ok (if eqb l 0 then x.second else x.first)

unfoldable pub follow2 : Graph → ℕ → State → Run State
follow2 G e s = do
  s ← put_allowed e true s
  x ← at G.edges e
  v ← labelled_end s x
  resume G v s

unfoldable pub follow3 : Graph → ℕ → State → Run State
follow3 G e s = do
  s ← put_allowed e true s
  x ← at G.edges e
  resume G x.first s

unfoldable pub follow : Graph → Delta → State → Run State
follow G no_delta s = fault
follow G (type1 d) s = move_duals G d s >>= λ s. ok (with_phase ended s)
follow G (type2 d e) s = move_duals G d s >>= λ s. follow2 G e s
follow G (type3 d e) s = move_duals G d s >>= λ s. follow3 G e s
follow G (type4 d b) s = move_duals G d s >>= λ s. expand_top G false b s

unfoldable pub adjust_duals : Graph → (flag : Bool) → State → Run State
adjust_duals G flag s = do
  d ← choose_delta G flag s
  follow G d s
