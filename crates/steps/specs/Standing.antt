-- What holds after each completed step: what is so of the nodes, the groups, the numbers and the mates (`Standing`).
-- `proofs/Steady.antt` shows that it holds from every fresh start, for n from 1 to 32,767: above that the mark for a missing entry,
-- 65,535, is itself the number of a group or a node, and nothing is claimed. It shows too what follows from it alone: how many groups
-- are in use at most, that a free number is always there, and that number n is never taken. Definitions only.
use Rattle.std.specs.Prelude.{◌≡◌, Bool, not, ◌≢◌, ◌⊎◌, List, [], ◌∷◌, ℕ, zero, suc, ◌*◌, ◌%◌, ◌<◌, ◌≤◌, ltb, length, get_or}
use Rattle.laws.specs.Lists.{sum, bit}
use Rattle.laws.specs.Times.{times}
use Rattle.laws.specs.Run.{ok}
use Rattle.matching.specs.Graph.{Graph, missing, is_missing, groups_of}
use Rattle.matching.specs.Certificate.{parent_of, climb, MateHolds}
use Rattle.steps.specs.State.{Forest, State, start}
use Rattle.steps.specs.Steps.{step}
use Rattle.steps.specs.Plan.{Ending, run_by}

-- ---- what is read of a forest

-- node v's entry in the outermost list; the parent, the base and the children of a number
abbrev pub top_of : Forest → ℕ → ℕ
top_of F v = get_or F.tops v missing

abbrev pub parent : Forest → ℕ → ℕ
parent F x = parent_of F.parents x

abbrev pub base_of : Forest → ℕ → ℕ
base_of F b = get_or F.bases b missing

abbrev pub children_of : Forest → ℕ → List ℕ
children_of F b = get_or F.children b []

-- b is a group's number
abbrev pub IsGroup : (n b : ℕ) → Type 0
IsGroup n b = (n ≤ b) × (b < 2 * n)

-- a number is in use where it has a base
abbrev pub InUse : Forest → ℕ → Type 0
InUse F b = base_of F b ≢ missing

abbrev pub Outermost : Forest → ℕ → Type 0
Outermost F b = InUse F b × (parent F b ≡ missing)

-- some number of moves to the parent lead from x to b
abbrev pub LiesIn : Forest → (x b : ℕ) → Type 0
LiesIn F x b = (k : ℕ) × (climb F.parents k x ≡ b)

-- ---- 1: every node stands alone or lies in exactly one outermost group, and its entry in the outermost list says which

pub record Alone (F : Forest) (v : ℕ) : Type 0 where
  pub own_entry : top_of F v ≡ v
  pub no_parent : parent F v ≡ missing

pub record Grouped (n : ℕ) (F : Forest) (v : ℕ) : Type 0 where
  pub is_group : IsGroup n (top_of F v)
  pub is_outermost : Outermost F (top_of F v)
  pub lies_in_it : LiesIn F v (top_of F v)
  pub in_no_other : (b : ℕ) → IsGroup n b → Outermost F b → LiesIn F v b → b ≡ top_of F v

-- ---- 2: a group in use has an odd number of children, three or more, none twice, each a node or a group in use, all naming it as
-- parent, and every number with that parent is among them

abbrev pub GroupInUse : (n : ℕ) → Forest → ℕ → Type 0
GroupInUse n F b = IsGroup n b × InUse F b

abbrev pub NodeOrGroupInUse : (n : ℕ) → Forest → ℕ → Type 0
NodeOrGroupInUse n F x = (x < n) ⊎ GroupInUse n F x

pub record Ring (n : ℕ) (F : Forest) (b : ℕ) : Type 0 where
  pub is_odd : length (children_of F b) % 2 ≡ 1
  pub three_or_more : 3 ≤ length (children_of F b)
  pub none_twice : (c : ℕ) → times c (children_of F b) ≤ 1
  pub each_in_use : (c : ℕ) → 0 < times c (children_of F b) → NodeOrGroupInUse n F c
  pub each_names_it : (c : ℕ) → 0 < times c (children_of F b) → parent F c ≡ b
  pub all_that_name_it : (c : ℕ) → parent F c ≡ b → 0 < times c (children_of F b)

-- a number's parent is missing, or a group in use
abbrev pub ParentInUse : (n : ℕ) → Forest → ℕ → Type 0
ParentInUse n F x = (parent F x ≡ missing) ⊎ GroupInUse n F (parent F x)

-- ---- 3: each group number is in use or free, once; a free one has no base, no children and no parent

pub record Free (F : Forest) (b : ℕ) : Type 0 where
  pub no_base : base_of F b ≡ missing
  pub once_free : times b F.free ≡ 1
  pub no_children : children_of F b ≡ []
  pub no_parent : parent F b ≡ missing

abbrev pub InUseOrFree : Forest → ℕ → Type 0
InUseOrFree F b = (InUse F b × (times b F.free ≡ 0)) ⊎ Free F b

-- number n stands first among the free ones, of which the last is taken
abbrev pub FirstFree : (n : ℕ) → Forest → Type 0
FirstFree n F = (l : List ℕ) × (F.free ≡ n ∷ l)

-- ---- 4: each mate names back (`MateHolds`, condition 11 of the check); and all together

pub record Standing (G : Graph) (s : State) : Type 0 where
  pub nodes : (v : ℕ) → v < G.nodes → Alone s.forest v ⊎ Grouped G.nodes s.forest v
  pub rings : (b : ℕ) → IsGroup G.nodes b → InUse s.forest b → Ring G.nodes s.forest b
  pub parents : (x : ℕ) → ParentInUse G.nodes s.forest x
  pub numbers : (b : ℕ) → IsGroup G.nodes b → InUseOrFree s.forest b
  pub only_groups_free : (b : ℕ) → 0 < times b s.forest.free → IsGroup G.nodes b
  pub first_free : FirstFree G.nodes s.forest
  pub mates : MateHolds G s.pairing.mates

-- ---- the states that a run passes through

-- after so many completed steps from the fresh start
pub data After (turns : (n c : ℕ) → Bool) (G : Graph) (flag : Bool) : ℕ → State → Type 0 where
  fresh : After turns G flag zero (start G)
  next : {k : ℕ} {s t : State} → After turns G flag k s → step turns G flag s ≡ ok t → After turns G flag (suc k) t

-- ---- how many groups are in use

unfoldable pub groups_in_use : Graph → Forest → ℕ
groups_in_use G F = sum (groups_of G) (λ b. bit (not (is_missing (base_of F b))))

-- ---- the source's own re-rooting test, `tmp > num_nodes`, in the place of ours; and the run by it

abbrev pub source_turns : (n c : ℕ) → Bool
source_turns n c = ltb n c

unfoldable pub source_run : Graph → (flag : Bool) → (left count : ℕ) → State → Ending
source_run G flag left count s = run_by source_turns G flag left count s
