-- A path of groups as the code holds it, and what the routines answer of it. Definitions only.
use Rattle.std.specs.Prelude.{◌≡◌, List, [], ◌∷◌, ◌++◌, reverse, map, ℕ, ◌*◌, ◌≤◌, ◌<◌, length, Result, Ok, Err}
use Rattle.matching.specs.Graph.{beside}
use Rattle.numbers.specs.declared.faults.Fault.{Fault}

-- groups and an end for each, with room for so many
pub record Pathed : Type 0 where
  pub kids : List ℕ
  pub ends : List ℕ
  pub room : ℕ

abbrev pub pathed : (kids ends : List ℕ) → (room : ℕ) → Pathed
pathed kids ends room = record { kids = kids; ends = ends; room = room }

-- the lists that a path lies in
pub record PathFits (kids ends : List ℕ) (len : ℕ) : Type 0 where
  pub within : len ≤ length kids
  pub same : length ends ≡ length kids
  pub few : length kids ≤ 65535

-- a path with a group and its end more, where there is room
abbrev pub longer : (kid end : ℕ) → Pathed → Pathed
longer kid end p = pathed (p.kids ++ (kid ∷ [])) (p.ends ++ (end ∷ [])) p.room

abbrev pub Pushes : (kid end : ℕ) → Pathed → {B : Type 0} → Result B Fault → Pathed → Type 0
Pushes kid end p (Ok b) q = (length p.kids < p.room) × (q ≡ longer kid end p)
Pushes kid end p (Err e) q = p.room ≤ length p.kids

-- the first path's part of a ring: the base's child and the path backward; its ends backward, and the first end of edge e
abbrev pub closed : (first e : ℕ) → Pathed → Pathed
closed first e p = pathed (reverse (p.kids ++ (first ∷ []))) (reverse p.ends ++ (2 * e ∷ [])) p.room

-- the second path's part: the path, and the ends beside its ends
abbrev pub joined : Pathed → Pathed → Pathed
joined p q = pathed (p.kids ++ q.kids) (p.ends ++ map beside q.ends) p.room
