-- What a reader gives, and what the replay programs read it as.
use Rattle.std.specs.Prelude.{◌≡◌, ◌≤◌, ◌<◌, ℕ, ◌-◌, ◌%◌, min, List, Option, None, Some, length, take, drop, replicate, if◌then◌else◌, nat_lt, ℤ, pos, neg_ℤ}
use Rattle.std.specs.Io.KnownBytes.{Consumes}
use Rattle.std.specs.Int.{from_le_bytes, w16, w32, w64}

-- known bytes lose a front of them, which these bytes begin with; all others are 0
abbrev pub Gives : Option (List ℕ) → Option (List ℕ) → List ℕ → Type 0
Gives old new bytes = (k : ℕ) × (k ≤ length bytes) × Consumes old new (take k bytes) × (drop k bytes ≡ replicate (length bytes - k) 0)

-- x is what so many bytes that a reader gave say
abbrev pub Reads : {A : Type 0} → Option (List ℕ) → Option (List ℕ) → ℕ → (List ℕ → A) → A → Type 0
Reads old new size said x = (bytes : List ℕ) × (length bytes ≡ size) × Gives old new bytes × (x ≡ said bytes)

-- four bytes are a size, the low one first; where fewer come there is none
abbrev pub Sized : Option (List ℕ) → Option (List ℕ) → Option ℕ → Type 0
Sized old new None = (bytes : List ℕ) × (length bytes < 4) × Consumes old new bytes
Sized old new (Some size) = (bytes : List ℕ) × (length bytes ≡ 4) × Consumes old new bytes × (size ≡ from_le_bytes w32 bytes)

-- the distance from zero, and in the highest bit whether it lies below
abbrev pub amount_of : List ℕ → ℤ
amount_of bytes =
    let x = from_le_bytes w64 bytes in
    if nat_lt x 9223372036854775808 then pos x else neg_ℤ (pos (x % 9223372036854775808))

-- no list is longer than there is room for
abbrev pub length_of : List ℕ → ℕ
length_of bytes = min (from_le_bytes w16 bytes) 2112
