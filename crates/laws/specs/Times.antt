-- How often a number stands in a list. Definitions only.
use Rattle.std.specs.Prelude.{List, [], ◌∷◌, ℕ, ◌+◌, eqb}
use Rattle.laws.specs.Lists.{bit}

unfoldable pub times : ℕ → List ℕ → ℕ
times x [] = 0
times x (y ∷ ys) = bit (eqb y x) + times x ys
