-- Lists of lists as fixed pools, one row of n places for each group: a node has an empty row. The definition's `children`, `ring_ends` and
-- `best_lists`, of 2n rows, seen in a pool and its counts.
use Rattle.std.specs.Prelude.{if◌then◌else◌, ◌≡◌, List, [], ℕ, ◌*◌, ◌-◌, ltb, length}
use Rattle.laws.specs.Rows.{rows, row_of}

abbrev pub row_in : (n : ℕ) → (counts pool : List ℕ) → (b : ℕ) → List ℕ
row_in n counts pool b = if ltb b n then [] else row_of n counts pool (b - n)

abbrev pub pooled : (n : ℕ) → (counts pool : List ℕ) → List (List ℕ)
pooled n counts pool = rows (row_in n counts pool) (2 * n)

-- the lists are as long as a pool of n rows of n places wants
pub record PoolFits (n : ℕ) (counts pool : List ℕ) : Type 0 where
  pub rows : length counts ≡ n
  pub places : length pool ≡ n * n
