-- A row of a pool as the code cuts it.
use Rattle.std.proofs.Common.{◌≡◌, List, [], ◌∷◌, ◌++◌, ℕ, zero, suc, ◌+◌, ◌*◌, ◌-◌, ◌≤◌, ◌<◌, length, take, drop, min, get_or, set}
use Rattle.std.proofs.Common.{slice_index, refl, ap, ◌∙◌, sym, arith}
use Rattle.std.proofs.lemmas.Grind.{common_steps}
use Rattle.laws.specs.Run.{ok, fault, at, put}
use Rattle.laws.specs.Rows.{row_of}
use Rattle.state.specs.Parts.{Pooled}
use Rattle.steps.specs.Ring.{rotate}
use Rattle.numbers.specs.Pools.{pooled, row_in, PoolFits}
use Rattle.numbers.proofs.PoolLaws.{at_group, at_none, place_row, pooled_count, pooled_row}
use Rattle.laws.proofs.Windows.{put_in, put_out}
use Rattle.laws.proofs.Runs.{ok_inj, not_ok}
use Rattle.laws.proofs.Rows.{length_rows}
use lib.Seq.{drop-drop, get_or-set_same}
use lib.ListN.{take-append-drop}

row_cut : (n g m : ℕ) (counts pool : List ℕ) → m ≡ min (slice_index counts g) n
    → row_of n counts pool g ≡ take (g * n + m - g * n) (drop (g * n) pool)
row_cut n g m counts pool e = grind (arith, common_steps, e)

pub pool_row : (n b m : ℕ) (counts pool : List ℕ) → n ≤ b → b - n < n → m ≡ min (slice_index counts (b - n)) n
    → at (pooled n counts pool) b ≡ ok (take ((b - n) * n + m - (b - n) * n) (drop ((b - n) * n) pool))
pool_row n b m counts pool h l e =
    at_group n counts pool b h (omega arith) ∙ ap ok (row_cut n (b - n) m counts pool e)

pub pool_out : (n b : ℕ) (counts pool : List ℕ) → n ≤ b → n ≤ b - n → at (pooled n counts pool) b ≡ fault
pool_out n b counts pool h l = at_none n counts pool b (omega arith)

-- how many lists a pool has
pub pooled_length : (n : ℕ) (counts pool : List ℕ) → length (pooled n counts pool) ≡ 2 * n
pooled_length n counts pool = length_rows (row_in n counts pool) (2 * n)

set_twice : (xs : List (List ℕ)) (b : ℕ) (r r' : List ℕ) → set (set xs b r) b r' ≡ set xs b r'
set_twice [] b r r' = refl
set_twice (x ∷ xs) zero r r' = refl
set_twice (x ∷ xs) (suc b) r r' = ap {B = List (List ℕ)} (λ l. x ∷ l) (set_twice xs b r r')

-- the row of group b rewritten whole, as the code does it: its count, and then its places
module _ (n b : ℕ) (counts pool r : List ℕ) (fits : PoolFits n counts pool) (h : n ≤ b) (l : b < 2 * n) (m : length r ≤ n) where
  abbrev from : ℕ
  from = (b - n) * n

  abbrev kept : List ℕ
  kept = take (length r) (drop from pool)

  abbrev counts' : List ℕ
  counts' = set counts (b - n) (length r)

  pub inside : from + n ≤ length pool
  inside = omega (arith, place_row n (b - n) (omega arith), fits.places)

  parts : take from pool ++ (kept ++ drop (from + length r) pool) ≡ pool
  parts =
      ap {B = List ℕ} (λ d. take from pool ++ (kept ++ d)) (sym (drop-drop (length r) from pool))
      ∙ ap {B = List ℕ} (λ d. take from pool ++ d) (take-append-drop (length r) (drop from pool))
      ∙ take-append-drop from pool

  before : length (take from pool) ≡ from
  before = grind (arith, common_steps, inside)

  kept_length : length kept ≡ length r
  kept_length = grind (arith, common_steps, inside, m)

  used : get_or counts' (b - n) 0 ≡ length r
  used = get_or-set_same counts (b - n) (length r) 0 (omega (arith, fits.rows))

  rewritten : pooled n counts' (take from pool ++ (r ++ drop (from + length r) pool)) ≡ set (pooled n counts pool) b r
  rewritten =
      pooled_row n counts' (take from pool) kept r (drop (from + length r) pool) b h before (kept_length ∙ rw used (omega arith)) (sym kept_length)
      ∙ rw (parts, pooled_count n counts pool b (length r) h (omega (arith, fits.rows))) (set_twice (pooled n counts pool) b _ r)

  pub row_put : put (pooled n counts pool) b r ≡ ok (pooled n counts' (take from pool ++ (r ++ drop (from + length r) pool)))
  row_put = put_in (pooled n counts pool) b r (omega (arith, pooled_length n counts pool)) ∙ ap ok (sym rewritten)

-- the row of group b rotated in its place
module _ (n b m i : ℕ) (counts pool : List ℕ) (fits : PoolFits n counts pool) (h : n ≤ b) (l : b < 2 * n)
    (e : m ≡ min (slice_index counts (b - n)) n) where
  abbrev start : ℕ
  start = (b - n) * n

  abbrev row : List ℕ
  row = take m (drop start pool)

  pub fit : start + n ≤ length pool
  fit = omega (arith, place_row n (b - n) (omega arith), fits.places)

  pub row_size : length row ≡ m
  row_size = grind (arith, common_steps, fit, e)

  pub row_is : at (pooled n counts pool) b ≡ ok row
  row_is = at_group n counts pool b h l ∙ grind (arith, common_steps, e)

  turned_size : length (rotate i row) ≡ length row
  unfolding rotate
  turned_size = grind (arith, common_steps)

  whole : take start pool ++ (row ++ drop (start + m) pool) ≡ pool
  whole =
      ap {B = List ℕ} (λ d. take start pool ++ (row ++ d)) (sym (drop-drop m start pool))
      ∙ ap {B = List ℕ} (λ d. take start pool ++ d) (take-append-drop m (drop start pool))
      ∙ take-append-drop start pool

  ahead : length (take start pool) ≡ start
  ahead = grind (arith, common_steps, fit)

  pub row_turned : put (pooled n counts pool) b (rotate i row) ≡ ok (pooled n counts (take start pool ++ (rotate i row ++ drop (start + m) pool)))
  row_turned =
      let w = pooled_row n counts (take start pool) row (rotate i row) (drop (start + m) pool) b h ahead (row_size ∙ e) turned_size in
      put_in (pooled n counts pool) b (rotate i row) (omega (arith, pooled_length n counts pool)) ∙ ap ok (sym (rw whole at w))

pub rows_told : {p q : Pooled} → p ≡ q → p.rows ≡ q.rows
rows_told e = ap (λ (p : Pooled). p.rows) e

set_same : (xs : List (List ℕ)) (b : ℕ) (r : List ℕ) → at xs b ≡ ok r → set xs b r ≡ xs
unfolding at
set_same [] b r e = not_ok e
set_same (x ∷ xs) zero r e = ap {B = List (List ℕ)} (λ y. y ∷ xs) (sym (ok_inj e))
set_same (x ∷ xs) (suc b) r e = ap {B = List (List ℕ)} (λ l. x ∷ l) (set_same xs b r e)

at_inside : (xs : List (List ℕ)) (b : ℕ) (r : List ℕ) → at xs b ≡ ok r → b < length xs
unfolding at
at_inside [] b r e = not_ok e
at_inside (x ∷ xs) zero r e = omega arith
at_inside (x ∷ xs) (suc b) r e = let h = at_inside xs b r e in omega (arith, h)

-- a row that is put where it is already changes nothing
pub put_same : (xs : List (List ℕ)) (b : ℕ) (r : List ℕ) → at xs b ≡ ok r → put xs b r ≡ ok xs
put_same xs b r e = put_in xs b r (at_inside xs b r e) ∙ ap ok (set_same xs b r e)

-- no group has this number
pub no_row : (n b : ℕ) (counts pool r : List ℕ) → n ≤ b → n ≤ b - n → put (pooled n counts pool) b r ≡ fault
no_row n b counts pool r h l = put_out _ b r (let k = pooled_length n counts pool in omega (arith, k))

turned_same : (i : ℕ) (r : List ℕ) → length r ≤ i → rotate i r ≡ r
unfolding rotate
turned_same i r h = grind (arith, common_steps, h)

-- a row turned to a place past its last stays as it is
pub turned_past : (xs : List (List ℕ)) (b i : ℕ) (r : List ℕ) → at xs b ≡ ok r → length r ≤ i → put xs b (rotate i r) ≡ ok xs
turned_past xs b i r e h = rw (turned_same i r h) (put_same xs b r e)
