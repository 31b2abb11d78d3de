-- A list of lists that stands in a pool: row g has `width` places from g * width on, of which a count says how many are in use.
-- Definitions only.
use Rattle.std.specs.Prelude.{List, map, ℕ, ◌*◌, get_or, take, drop}
use Rattle.laws.specs.Lists.{range}

-- rows 0 to k - 1, where f gives each
abbrev pub rows : {A : Type 0} → (ℕ → A) → ℕ → List A
rows f k = map f (range 0 k)

-- the places of row g, in use or not
abbrev pub places : {A : Type 0} → (width : ℕ) → (pool : List A) → ℕ → List A
places width pool g = take width (drop (g * width) pool)

-- row g
abbrev pub row_of : {A : Type 0} → (width : ℕ) → (counts : List ℕ) → (pool : List A) → ℕ → List A
row_of width counts pool g = take (get_or counts g 0) (places width pool g)
