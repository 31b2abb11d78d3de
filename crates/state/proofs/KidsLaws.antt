-- The row of a group as the places that it lies in.
use Rattle.std.proofs.Common.{if◌then◌else◌, ◌≡◌, Bool, true, false, not, List, [], ℕ, ◌+◌, ◌*◌, ◌-◌, ◌≤◌, ◌<◌, ltb}
use Rattle.std.proofs.Common.{length, take, drop, min, slice_index, refl, ◌∙◌, sym, arith}
use lib.Dec.{T, nltb→le}
use lib.ListN.{length-take, length-drop}
use Rattle.laws.specs.Run.{ok, at}
use Rattle.laws.specs.Rows.{row_of}
use Rattle.laws.proofs.Runs.{ok_inj}
use Rattle.laws.proofs.Windows.{at_found}
use Rattle.laws.proofs.Rows.{at_rows}
use Rattle.numbers.specs.Pools.{pooled, row_in, PoolFits}
use Rattle.numbers.proofs.PoolLaws.{place_row}
use Rattle.state.specs.Kids.{kids_row}
use Rattle.state.proofs.Rows.{pooled_length, pool_row}

module _ (n b : ℕ) (counts pool r : List ℕ) (fits : PoolFits n counts pool) (e : at (pooled n counts pool) b ≡ ok r) where
  abbrev m : ℕ
  m = min (slice_index counts (b - n)) n

  abbrev from : ℕ
  from = (b - n) * n

  inside : b < 2 * n
  inside = omega (arith, at_found (pooled n counts pool) b e, pooled_length n counts pool)

  fit : from + n ≤ length pool
  fit = omega (arith, place_row n (b - n) (omega (arith, inside)), fits.places)

  sized : length (take m (drop from pool)) ≡ m
  sized = simp (length-take, length-drop) (omega (arith, fit))

  cut : from + m - from ≡ m
  cut = omega arith

  lies : (t : Bool) → (T (not t) → n ≤ b) → r ≡ (if t then [] else row_of n counts pool (b - n)) → (r ≡ kids_row n b (length r) pool) × (length r ≤ n)
  lies true f h = rw h (refl, omega arith)
  lies false f h =
      let p = pool_row n b m counts pool (f tt) (omega (arith, inside, f tt)) refl in
      let q = rw cut at p in
      let k : r ≡ take m (drop from pool) = ok_inj (sym e ∙ q) in rw (k, sized) (refl, omega arith)

  whole : (r ≡ kids_row n b (length r) pool) × (length r ≤ n)
  whole = lies (ltb b n) (nltb→le b n) (ok_inj (sym e ∙ at_rows (row_in n counts pool) (2 * n) b inside))

  pub row_lies : r ≡ kids_row n b (length r) pool
  row_lies = whole.0

  pub row_inside : from + length r ≤ length pool
  row_inside = omega (arith, fit, whole.1)
