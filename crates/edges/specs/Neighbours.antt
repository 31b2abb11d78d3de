-- The neighbours of each node as a table: the places offsets[v] to offsets[v + 1] of `far` hold the far end of each end at node v, in
-- edge order. Definitions only.
use Rattle.std.specs.Prelude.{if◌then◌else◌, ◌≡◌, List, [], ◌∷◌, ◌++◌, map, ℕ, zero, suc, ◌+◌, ◌-◌, ◌<◌, ◌≤◌, eqb, ltb, length, get_or, take, drop}
use Rattle.laws.specs.Lists.{bit, range}
use Rattle.laws.specs.Times.{times}
use Rattle.matching.specs.Graph.{beside}

-- the far end of each end at node v; p is the number of the list's first end
unfoldable pub far_from : (v p : ℕ) → (ends : List ℕ) → List ℕ
far_from v p [] = []
far_from v p (x ∷ xs) = if eqb x v then beside p ∷ far_from v (suc p) xs else far_from v (suc p) xs

-- the places of node v
abbrev pub far_at : (offsets far : List ℕ) → ℕ → List ℕ
far_at offsets far v = take (get_or offsets (v + 1) 0 - get_or offsets v 0) (drop (get_or offsets v 0) far)

pub record Neighbours (n : ℕ) (ends offsets far : List ℕ) : Type 0 where
  pub ordered : (v : ℕ) → v < n → get_or offsets v 0 ≤ get_or offsets (v + 1) 0
  pub within : (v : ℕ) → v < n → get_or offsets (v + 1) 0 ≤ length far
  pub row : (v : ℕ) → v < n → far_at offsets far v ≡ far_from v 0 ends

-- ---- the two lists, whole

-- how many ends are at nodes below v
unfoldable pub below : (v : ℕ) → (ends : List ℕ) → ℕ
below v [] = 0
below v (x ∷ xs) = bit (ltb x v) + below v xs

-- where the places of each of n nodes begin, and where the last node's end
abbrev pub offsets_of : (n : ℕ) → (ends : List ℕ) → List ℕ
offsets_of n ends = map (λ v. below v ends) (range 0 (n + 1))

-- the far ends of n nodes, one node's after another's; an end at node n or more has none
unfoldable pub far_of : (n : ℕ) → (ends : List ℕ) → List ℕ
far_of zero ends = []
far_of (suc n) ends = far_of n ends ++ far_from n 0 ends

-- ---- while it is made

-- each node's places begin where those of the nodes below it end, and past those of all n nodes `far` is as it was
pub record Begun (n : ℕ) (ends offsets before far : List ℕ) : Type 0 where
  pub begins : (v : ℕ) → v ≤ n → get_or offsets v 0 ≡ below v ends
  pub past : drop (below n ends) far ≡ drop (below n ends) before

-- how many ends are at each node
pub record Counted (n : ℕ) (ends counts : List ℕ) : Type 0 where
  pub counted : (v : ℕ) → v < n → get_or counts v 0 ≡ times v ends

-- the sum of the first v
unfoldable pub sum_to : List ℕ → ℕ → ℕ
sum_to l zero = 0
sum_to l (suc v) = sum_to l v + get_or l v 0

-- where each node's places end: the sums of the counts
pub record Summed (n : ℕ) (counts offsets : List ℕ) : Type 0 where
  pub summed : (v : ℕ) → v < n → get_or offsets v 0 ≡ sum_to counts (v + 1)
  pub last : get_or offsets n 0 ≡ sum_to counts n
