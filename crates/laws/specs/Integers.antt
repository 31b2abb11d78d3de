-- Integers: tests, the lesser and the greater of two, the least of a list.
-- Definitions only.
use Rattle.std.specs.Prelude.{Bool, cond, List, [], ◌∷◌, ◌%◌, eqb, ℤ, pos, nat_abs}
use Rattle.std.specs.Int.Signed.{lt_z, quot_z}

abbrev pub is_zero : ℤ → Bool
is_zero z = eqb (nat_abs z) 0

abbrev pub is_even : ℤ → Bool
is_even z = eqb (nat_abs z % 2) 0

abbrev pub half : ℤ → ℤ
half z = quot_z z (pos 2)

unfoldable pub lesser : ℤ → ℤ → ℤ
lesser a b = cond (lt_z b a) b a

unfoldable pub greater : ℤ → ℤ → ℤ
greater a b = cond (lt_z a b) b a

-- the least of a and the list
unfoldable pub least_from : ℤ → List ℤ → ℤ
least_from a [] = a
least_from a (b ∷ bs) = least_from (lesser a b) bs

-- the least of a list; 0 if that is empty
unfoldable pub least : List ℤ → ℤ
least [] = pos 0
least (a ∷ bs) = least_from a bs
