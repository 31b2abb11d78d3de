-- A certificate for a plan: mates, duals and parents as the check reads them, and the seven conditions on them, MATE to FULL.
-- Definitions only.
use Rattle.std.specs.Prelude.{if◌then◌else◌, ◌≡◌, Bool, false, not, ◌&&◌, ◌||◌, ◌⊎◌, List, [], ◌∷◌, ℕ, zero, suc, ◌+◌, ◌*◌, ◌-◌, ◌/◌, ◌%◌, ◌^◌, ◌<◌, ◌≤◌, T, eqb, ℤ, pos, neg_ℤ, nat_abs, ◌+ℤ◌, ◌-ℤ◌, ◌*ℤ◌, ◌≤ℤ◌, ◌<ℤ◌, get_or, take}
use Rattle.laws.specs.Integers.{greater, least}
use Rattle.laws.specs.Lists.{keep, sum, total, bit}
use Rattle.matching.specs.Graph.{Graph, edge_count, first_of, second_of, weight_of, nodes_of, edges_of, groups_of, missing, is_missing, beside, node_at}

-- n mates, 2n duals, 2n parents
pub record Certificate : Type 0 where
  pub mates : List ℕ
  pub duals : List ℤ
  pub parents : List ℕ

unfoldable pub mate_of : (mates : List ℕ) → ℕ → ℕ
mate_of mates v = get_or mates v missing

unfoldable pub dual_of : (duals : List ℤ) → ℕ → ℤ
dual_of duals i = get_or duals i (pos 0)

unfoldable pub parent_of : (parents : List ℕ) → ℕ → ℕ
parent_of parents i = get_or parents i missing

-- no dual may be further from zero
abbrev pub max_dual : ℕ
max_dual = 2 ^ 52

-- ---- matched edges

-- the mate of e's first node is e's second end, and the other way round
unfoldable pub matched : Graph → (mates : List ℕ) → ℕ → Bool
matched G mates e = eqb (mate_of mates (first_of G e)) (2 * e + 1) && eqb (mate_of mates (second_of G e)) (2 * e)

-- the matching that the mates describe
unfoldable pub pairs : Graph → (mates : List ℕ) → List ℕ
pairs G mates = keep (matched G mates) (edges_of G)

-- ---- groups

-- where k moves from i to the parent lead
unfoldable pub climb : (parents : List ℕ) → ℕ → ℕ → ℕ
climb parents zero i = i
climb parents (suc k) i = climb parents k (parent_of parents i)

-- climbing from i meets B within k moves, before a missing parent
unfoldable pub meets : (parents : List ℕ) → ℕ → ℕ → ℕ → Bool
meets parents zero i B = false
meets parents (suc k) i B =
    not (is_missing (parent_of parents i)) && (eqb (parent_of parents i) B || meets parents k (parent_of parents i) B)

-- group B contains node v
unfoldable pub contains : Graph → (parents : List ℕ) → ℕ → ℕ → Bool
contains G parents B v = meets parents G.nodes v B

-- group B contains both ends of e
unfoldable pub inside : Graph → (parents : List ℕ) → ℕ → ℕ → Bool
inside G parents B e = contains G parents B (first_of G e) && contains G parents B (second_of G e)

-- how many nodes B contains, and how many edges of L lie within it
unfoldable pub size : Graph → (parents : List ℕ) → ℕ → ℕ
size G parents B = sum (nodes_of G) (λ v. bit (contains G parents B v))

unfoldable pub within : Graph → (parents : List ℕ) → ℕ → List ℕ → ℕ
within G parents B L = sum L (λ e. bit (inside G parents B e))

-- ---- the sums of EDGE, TIGHT and FREE

-- slack: u(a) + u(b) - 2w
unfoldable pub slack : Graph → (duals : List ℤ) → ℕ → ℤ
slack G duals e = dual_of duals (first_of G e) +ℤ dual_of duals (second_of G e) -ℤ pos 2 *ℤ weight_of G e

-- the duals of all groups that contain both ends of e
unfoldable pub group_duals : Graph → Certificate → ℕ → ℤ
group_duals G C e = total (groups_of G) (λ B. if inside G C.parents B e then dual_of C.duals B else pos 0)

-- the slack plus twice those duals
unfoldable pub full_slack : Graph → Certificate → ℕ → ℤ
full_slack G C e = slack G C.duals e +ℤ pos 2 *ℤ group_duals G C e

-- without the flag 0; with it the larger of 0 and minus the least node dual, which is 0 if there are no nodes
unfoldable pub offset : Graph → Bool → (duals : List ℤ) → ℤ
offset G flag duals = if flag then greater (pos 0) (neg_ℤ (least (take G.nodes duals))) else pos 0

-- ---- the conditions

-- v's mate is an end below 2m, whose other end is v, and whose node has that other end as mate
pub record NamedBack (G : Graph) (mates : List ℕ) (v : ℕ) : Type 0 where
  pub is_end : mate_of mates v < 2 * edge_count G
  pub is_mine : node_at G (beside (mate_of mates v)) ≡ v
  pub is_mutual : mate_of mates (node_at G (mate_of mates v)) ≡ beside (mate_of mates v)

-- i's parent is missing or a group, and climbing from i reaches a missing parent in at most n moves
pub record Climbs (G : Graph) (parents : List ℕ) (i : ℕ) : Type 0 where
  pub is_group : (parent_of parents i ≡ missing) ⊎ ((G.nodes ≤ parent_of parents i) × (parent_of parents i < 2 * G.nodes))
  pub to_the_top : (k : ℕ) × (k ≤ G.nodes) × (parent_of parents (climb parents k i) ≡ missing)

-- i's dual is within 2^52 of zero; it is 0 or more if i is a group, and without the flag in any case
pub record DualFits (G : Graph) (flag : Bool) (duals : List ℤ) (i : ℕ) : Type 0 where
  pub is_small : nat_abs (dual_of duals i) ≤ max_dual
  pub of_group : G.nodes ≤ i → pos 0 ≤ℤ dual_of duals i
  pub of_node : T (not flag) → pos 0 ≤ℤ dual_of duals i

-- B holds an odd number of nodes, and (size - 1) / 2 matched edges lie within it
pub record Full (G : Graph) (C : Certificate) (B : ℕ) : Type 0 where
  pub is_odd : size G C.parents B % 2 ≡ 1
  pub is_filled : within G C.parents B (pairs G C.mates) ≡ (size G C.parents B - 1) / 2

-- ---- the seven, 11 to 17, in their order

pub data Condition : Type 0 where
  MATE PARENT DUAL EDGE TIGHT FREE FULL : Condition

abbrev pub conditions : List Condition
conditions = MATE ∷ PARENT ∷ DUAL ∷ EDGE ∷ TIGHT ∷ FREE ∷ FULL ∷ []

abbrev pub condition_number : Condition → ℕ
condition_number MATE = 11
condition_number PARENT = 12
condition_number DUAL = 13
condition_number EDGE = 14
condition_number TIGHT = 15
condition_number FREE = 16
condition_number FULL = 17

abbrev pub MateHolds : Graph → (mates : List ℕ) → Type 0
MateHolds G mates = (v : ℕ) → v < G.nodes → (mate_of mates v ≡ missing) ⊎ NamedBack G mates v

abbrev pub Holds : Graph → Bool → Certificate → Condition → Type 0
Holds G flag C MATE = MateHolds G C.mates
Holds G flag C PARENT = (i : ℕ) → i < 2 * G.nodes → Climbs G C.parents i
Holds G flag C DUAL = (i : ℕ) → i < 2 * G.nodes → DualFits G flag C.duals i
Holds G flag C EDGE = (e : ℕ) → e < edge_count G → pos 0 ≤ℤ full_slack G C e
Holds G flag C TIGHT = (e : ℕ) → e < edge_count G → T (matched G C.mates e) → full_slack G C e ≡ pos 0
Holds G flag C FREE =
    (v : ℕ) → v < G.nodes → mate_of C.mates v ≡ missing → dual_of C.duals v +ℤ offset G flag C.duals ≡ pos 0
Holds G flag C FULL = (B : ℕ) → G.nodes ≤ B → B < 2 * G.nodes → pos 0 <ℤ dual_of C.duals B → Full G C B

-- the certificate passes: all seven hold
abbrev pub Passes : Graph → Bool → Certificate → Type 0
Passes G flag C = (c : Condition) → Holds G flag C c
