-- Tests that compute, one for each condition, and the verdict that they give together: YES, or NO with the first condition that fails.
-- Definitions only; `proofs/Decided.antt` shows that each test decides its condition and that the verdict says what holds.
use Rattle.std.specs.Prelude.{if◌then◌else◌, ◌≡◌, Bool, not, ◌&&◌, ◌||◌, ◌⊎◌, List, [], ◌∷◌, ℕ, zero, suc, ◌*◌, ◌-◌, ◌/◌, ◌%◌, eqb, leb, ltb, ℤ, pos, nat_abs, ◌+ℤ◌}
use Rattle.std.specs.Int.Signed.{le_z, lt_z}
use Rattle.laws.specs.Integers.{is_zero}
use Rattle.laws.specs.Lists.{range, all}
use Rattle.matching.specs.Graph.{Graph, edge_count, nodes_of, edges_of, groups_of, is_missing, beside, node_at}
use Rattle.matching.specs.Certificate.{Certificate, mate_of, dual_of, parent_of, max_dual, matched, pairs, size, within, full_slack, offset, Condition, MATE, PARENT, DUAL, EDGE, TIGHT, FREE, FULL, conditions, Holds, Passes}

-- ---- the tests, at one number

unfoldable pub mate_test : Graph → (mates : List ℕ) → ℕ → Bool
mate_test G mates v =
    is_missing (mate_of mates v)
    || (ltb (mate_of mates v) (2 * edge_count G)
    && (eqb (node_at G (beside (mate_of mates v))) v && eqb (mate_of mates (node_at G (mate_of mates v))) (beside (mate_of mates v))))

-- climbing from i reaches a missing parent in at most k moves
unfoldable pub climb_ends : (parents : List ℕ) → ℕ → ℕ → Bool
climb_ends parents zero i = is_missing (parent_of parents i)
climb_ends parents (suc k) i = is_missing (parent_of parents i) || climb_ends parents k (parent_of parents i)

unfoldable pub parent_test : Graph → (parents : List ℕ) → ℕ → Bool
parent_test G parents i =
    (is_missing (parent_of parents i) || (leb G.nodes (parent_of parents i) && ltb (parent_of parents i) (2 * G.nodes)))
    && climb_ends parents G.nodes i

unfoldable pub dual_test : Graph → Bool → (duals : List ℤ) → ℕ → Bool
dual_test G flag duals i =
    leb (nat_abs (dual_of duals i)) max_dual
    && ((not (leb G.nodes i) || le_z (pos 0) (dual_of duals i)) && (not (not flag) || le_z (pos 0) (dual_of duals i)))

unfoldable pub edge_test : Graph → Certificate → ℕ → Bool
edge_test G C e = le_z (pos 0) (full_slack G C e)

unfoldable pub tight_test : Graph → Certificate → ℕ → Bool
tight_test G C e = not (matched G C.mates e) || is_zero (full_slack G C e)

unfoldable pub free_test : Graph → Bool → Certificate → ℕ → Bool
free_test G flag C v = not (is_missing (mate_of C.mates v)) || is_zero (dual_of C.duals v +ℤ offset G flag C.duals)

unfoldable pub full_test : Graph → Certificate → ℕ → Bool
full_test G C B =
    not (lt_z (pos 0) (dual_of C.duals B))
    || (eqb (size G C.parents B % 2) 1 && eqb (within G C.parents B (pairs G C.mates)) ((size G C.parents B - 1) / 2))

-- ---- the tests, over all

unfoldable pub mates_pass : Graph → (mates : List ℕ) → Bool
mates_pass G mates = all (mate_test G mates) (nodes_of G)

unfoldable pub passes : Graph → Bool → Certificate → Condition → Bool
passes G flag C MATE = mates_pass G C.mates
passes G flag C PARENT = all (parent_test G C.parents) (range 0 (2 * G.nodes))
passes G flag C DUAL = all (dual_test G flag C.duals) (range 0 (2 * G.nodes))
passes G flag C EDGE = all (edge_test G C) (edges_of G)
passes G flag C TIGHT = all (tight_test G C) (edges_of G)
passes G flag C FREE = all (free_test G flag C) (nodes_of G)
passes G flag C FULL = all (full_test G C) (groups_of G)

-- ---- the verdict

pub data Verdict : Type 0 where
  YES : Verdict
  NO : Condition → Verdict

-- NO with the first that fails of a list of conditions, else YES
unfoldable pub verdict_of : Graph → Bool → Certificate → List Condition → Verdict
verdict_of G flag C [] = YES
verdict_of G flag C (c ∷ cs) = let rest = verdict_of G flag C cs in if passes G flag C c then rest else NO c

unfoldable pub verdict : Graph → Bool → Certificate → Verdict
verdict G flag C = verdict_of G flag C conditions

-- k is the first of the list that fails
abbrev pub FirstFailing : Graph → Bool → Certificate → List Condition → Condition → Type 0
FirstFailing G flag C [] k = ⊥
FirstFailing G flag C (c ∷ cs) k = ((c ≡ k) × ¬ Holds G flag C c) ⊎ (Holds G flag C c × FirstFailing G flag C cs k)

-- what a verdict says: that all conditions hold, or which is the first that fails
abbrev pub Says : Graph → Bool → Certificate → Verdict → Type 0
Says G flag C YES = Passes G flag C
Says G flag C (NO k) = FirstFailing G flag C conditions k
