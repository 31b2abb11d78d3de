-- Text as bytes: decimal numbers, fields parted by one space, lines that end in a line feed. Definitions only.
use Rattle.std.specs.Prelude.{if◌then◌else◌, List, [], ◌∷◌, ◌++◌, ℕ, zero, suc, ◌+◌, ◌/◌, ◌%◌, ltb, ℤ, pos, negsuc}

abbrev pub minus : ℕ
minus = 45

abbrev pub space : ℕ
space = 32

abbrev pub line_feed : ℕ
line_feed = 10

-- the byte of a digit
abbrev pub digit : ℕ → ℕ
digit d = 48 + d

-- at most so many digits
unfoldable pub digits : (most : ℕ) → ℕ → List ℕ
digits zero x = []
digits (suc most) x =
    let front = digits most (x / 10) in
    if ltb x 10 then digit x ∷ [] else (front ++ (digit (x % 10) ∷ []))

-- a number has no more digits than its value and one
unfoldable pub decimal : ℕ → List ℕ
decimal x = digits (suc x) x

abbrev pub signed_decimal : ℤ → List ℕ
signed_decimal (pos n) = decimal n
signed_decimal (negsuc n) = minus ∷ decimal (suc n)

-- a line: its first field, and the others
abbrev pub line : List ℕ → List (List ℕ) → List ℕ
line f [] = f ++ (line_feed ∷ [])
line f (g ∷ gs) = f ++ (space ∷ line g gs)
