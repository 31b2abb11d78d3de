-- Lists before the first step: a pool with no row in use, whatever its places hold; numbers counted up.
use Rattle.std.proofs.Common.{◌≡◌, List, [], ℕ, ◌*◌, zero, suc, length, take, replicate, get_or, refl, arith}
use Rattle.numbers.specs.Pools.{pooled}
use Rattle.numbers.proofs.PoolLaws.{pooled_empty}
use Rattle.laws.specs.Lists.{range}
use Rattle.laws.proofs.Lists.{length_range}
use Rattle.std.proofs.lemmas.List.{take_all}

no_count : (n g x : ℕ) → x ≡ 0 → get_or {A = ℕ} (replicate n x) g x ≡ x
no_count zero g x e = refl
no_count (suc n) zero x e = refl
no_count (suc n) (suc g) x e = no_count n g x e

pub none_yet : (n : ℕ) (places : List ℕ) → pooled n (replicate n 0) places ≡ replicate (2 * n) []
none_yet n places = pooled_empty n (replicate n 0) places (λ g. no_count n g 0 refl)

pub range_length : (from k : ℕ) → length (range from k) ≡ k
range_length from k = length_range from k

pub take_range : (from k : ℕ) → take k (range from k) ≡ range from k
take_range from k = take_all k (range from k) (let e = length_range from k in omega (arith, e))

pub ruleset fresh = (none_yet, range_length, take_range)
