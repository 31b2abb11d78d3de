-- Numbers of a file, from their bytes; and four bytes as a signed number.
use Rattle.std.proofs.Common.{◌≡◌, ap, List, [], ◌∷◌, ℕ, suc, ◌+◌, ◌-◌, ◌<◌, ◌^◌, pos, negsuc, ltb, if◌then◌else◌, arith, w16, w32}
use Rattle.std.specs.Int.{from_le_bytes, cast_signed}
use Rattle.records.specs.Site.{byte_at, word_at, long_at, number_at, signed}

pub word_read : (file : List ℕ) (p k : ℕ) → from_le_bytes w16 (byte_at file (p + k) ∷ byte_at file (p + (k + 1)) ∷ []) ≡ word_at file (p + k)
unfolding number_at
word_read file p k =
    let e : p + (k + 1) ≡ p + k + 1 = omega arith in
    rw e (omega arith)

pub long_read : (file : List ℕ) (p k : ℕ)
    → from_le_bytes w32 (byte_at file (p + k) ∷ byte_at file (p + (k + 1)) ∷ byte_at file (p + (k + 2)) ∷ byte_at file (p + (k + 3)) ∷ [])
    ≡ long_at file (p + k)
unfolding number_at
long_read file p k =
    let e : p + (k + 1) ≡ p + k + 1 = omega arith in
    let f : p + (k + 2) ≡ p + k + 1 + 1 = omega arith in
    let g : p + (k + 3) ≡ p + k + 1 + 1 + 1 = omega arith in
    rw (e, f, g) (omega arith)

pub signed_read : (x : ℕ) → x < 2 ^ 32 → cast_signed w32 x ≡ signed x
unfolding signed
signed_read x h =
    let e : 2 ^ 32 - suc x ≡ 2 ^ 32 - 1 - x = omega arith in
    ap (λ (t : ℕ). if ltb x (2 ^ 31) then pos x else negsuc t) e
