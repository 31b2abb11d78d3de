-- The chain of a number: the groups met in climbing from it, innermost first; and the table that holds the chain of each node.
-- Definitions only.
use Rattle.std.specs.Prelude.{if◌then◌else◌, ◌≡◌, ◌&&◌, List, [], ◌∷◌, ℕ, zero, suc, ◌+◌, ◌*◌, ◌<◌, ◌≤◌, T, ℤ, pos, length, get_or}
use Rattle.laws.specs.Lists.{range, total}
use Rattle.matching.specs.Graph.{missing, is_missing}
use Rattle.matching.specs.Certificate.{parent_of, dual_of, meets}
use Rattle.matching.specs.Tests.{climb_ends}

-- at most k moves
unfoldable pub chain : (parents : List ℕ) → ℕ → ℕ → List ℕ
chain parents zero i = []
chain parents (suc k) i = if is_missing (parent_of parents i) then [] else parent_of parents i ∷ chain parents k (parent_of parents i)

-- each of 2n parents is missing or a group
pub record Named (n : ℕ) (parents : List ℕ) : Type 0 where
  pub as_many : length parents ≡ 2 * n
  pub is_group : (i : ℕ) → i < 2 * n → (get_or parents i 0 ≡ missing → ⊥) → (n ≤ get_or parents i 0) × (get_or parents i 0 < 2 * n)

-- and climbing ends: PARENT
pub record Climbing (n : ℕ) (parents : List ℕ) : Type 0 where
  pub named : Named n parents
  pub ends : (i : ℕ) → i < 2 * n → T (climb_ends parents n i)

-- what a climb from v leaves: r groups in row v, what lies ahead of it as it was
pub record Climbed (n : ℕ) (parents : List ℕ) (v : ℕ) (before after : List ℕ) (r : ℕ) : Type 0 where
  pub count : r ≡ length (chain parents n v)
  pub entry : (k : ℕ) → k < length (chain parents n v) → get_or after (v * n + k) 0 ≡ get_or (chain parents n v) k 0
  pub ahead : (i : ℕ) → i < v * n → get_or after i 0 ≡ get_or before i 0
  pub as_long : length after ≡ length before

-- row v of the table is v's chain
pub record Row (n : ℕ) (parents counts pool : List ℕ) (v : ℕ) : Type 0 where
  pub count : get_or counts v 0 ≡ length (chain parents n v)
  pub entry : (k : ℕ) → k < length (chain parents n v) → get_or pool (v * n + k) 0 ≡ get_or (chain parents n v) k 0

pub record Table (n : ℕ) (counts pool parents : List ℕ) : Type 0 where
  pub climbing : Climbing n parents
  pub few_nodes : n ≤ 64
  pub counts_fit : n ≤ length counts
  pub pool_fits : n * n ≤ length pool
  pub row : (v : ℕ) → v < n → Row n parents counts pool v

-- the duals of the groups that contain both a and b
unfoldable pub common_duals : (n : ℕ) → (duals : List ℤ) → (parents : List ℕ) → ℕ → ℕ → ℤ
common_duals n duals parents a b = total (range n n) (λ B. if meets parents n a B && meets parents n b B then dual_of duals B else pos 0)
