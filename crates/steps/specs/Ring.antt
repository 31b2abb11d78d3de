-- Places in the ring of a group's children. The source's negative position is a place counted round the ring.
-- Definitions only.
use Rattle.std.specs.Prelude.{if◌then◌else◌, Bool, true, false, List, ◌++◌, ℕ, zero, suc, ◌-◌, eqb, take, drop}
use Rattle.laws.specs.Run.{Run, ok, fault, ◌>>=◌, at}
use Rattle.matching.specs.Graph.{beside}

-- the next place of len: forward from an odd start, backward from an even one, so that place 0 is reached after an even number
unfoldable pub around : (forward : Bool) → (len : ℕ) → ℕ → ℕ
around true len j = if eqb (suc j) len then 0 else suc j
around false len zero = len - 1
around false len (suc j) = j

-- the ring end that is used at place j, seen in the direction of the walk: that of j, or the end beside that of j - 1
unfoldable pub link_end : (forward : Bool) → List ℕ → ℕ → Run ℕ
link_end true ends j = at ends j
link_end false ends zero = fault
link_end false ends (suc j) = at ends j >>= λ p. ok (beside p)

-- the ring with place i first
unfoldable pub rotate : ℕ → List ℕ → List ℕ
rotate i xs = drop i xs ++ take i xs
