-- What is written of a record in which something differs.
use Rattle.std.specs.Prelude.{ℕ, ◌+◌, List, [], ◌∷◌, ◌++◌, Bool, if◌then◌else◌, decimal}

-- the record's place and the number of what differs, with a space between, and the line's end
abbrev pub line : ℕ → ℕ → List ℕ
line place what = decimal place ++ (32 ∷ (decimal what ++ (10 ∷ [])))

-- a line for each that differs; they are numbered on from here
abbrev pub told : ℕ → ℕ → List Bool → List ℕ
told place what [] = []
told place what (same ∷ rest) = (if same then [] else line place what) ++ told place (what + 1) rest
