-- Laws of the rows of a pool as the definition sees them: a read of a row, what a store to a count does, and a row rewritten whole.
use Rattle.std.specs.Prelude.{if◌then◌else◌}
use mathlib.Core.Path.{◌≡◌, refl, sym, ap, ◌∙◌}
use mathlib.Core.Bool.{Bool, true, false, not}
use mathlib.Core.Logic.{◌≢◌}
use mathlib.Core.List.{List, [], ◌++◌}
use Prim.Native.Nat.{ℕ, min, ◌+◌, ◌*◌, ◌-◌, ◌<◌, ◌≤◌}
use native.Mathlib.Nat.{mul-le-mul_right}
use native.Mathlib.Omega.{arith}
use borrow.Author.Tests.{lt-ltb, le-ltb}
use lib.Dec.{T, ltb, nltb→le}
use lib.ListN.{length, get_or, set, take, replicate, drop}
use lib.Seq.{get_or-set_same, get_or-set_other}
use Rattle.laws.specs.Rows.{row_of, places}
use Rattle.laws.specs.Run.{Run, ok, fault, at, and_then, for_each}
use Rattle.laws.proofs.Rows.{at_rows, at_rows_out, set_rows, row_whole, other_row, constant_rows, row_of_length, row_of_at}
use Rattle.numbers.specs.Pools.{row_in, pooled, PoolFits}
use Rattle.laws.proofs.Runs.{for_each_next, for_each_end}

-- entry k of row g has its place in a pool of n rows of n
pub place_in : (n g k : ℕ) → g < n → k < n → g * n + k < n * n
place_in n g k h l = omega (arith, mul-le-mul_right n h)

pub place_row : (n g : ℕ) → g < n → g * n + n ≤ n * n
place_row n g h = omega (arith, mul-le-mul_right n h)

module _ (n : ℕ) (counts pool : List ℕ) where
  -- the row of a node, of a group, of no number
  pub at_node : (b : ℕ) → b < n → at (pooled n counts pool) b ≡ ok []
  at_node b h = at_rows (row_in n counts pool) (2 * n) b (omega arith) ∙ rw (lt-ltb b n h)

  pub at_group : (b : ℕ) → n ≤ b → b < 2 * n → at (pooled n counts pool) b ≡ ok (row_of n counts pool (b - n))
  at_group b h l = at_rows (row_in n counts pool) (2 * n) b l ∙ rw (le-ltb b n h)

  pub at_none : (b : ℕ) → 2 * n ≤ b → at (pooled n counts pool) b ≡ fault
  at_none b h = at_rows_out (row_in n counts pool) (2 * n) b h

  -- two pools whose rows agree but for group b's
  one_row : (counts' pool' : List ℕ) (b : ℕ) (r : List ℕ) → n ≤ b → row_of n counts' pool' (b - n) ≡ r
      → ((g : ℕ) → g ≢ b - n → row_of n counts pool g ≡ row_of n counts' pool' g) → pooled n counts' pool' ≡ set (pooled n counts pool) b r
  one_row counts' pool' b r h e o =
      sym (set_rows (row_in n counts pool) (row_in n counts' pool') r (2 * n) b (rw (le-ltb b n h) e) others)
    where
      others : (j : ℕ) → j ≢ b → row_in n counts pool j ≡ row_in n counts' pool' j
      others j d = go (ltb j n) (nltb→le j n)
        where
          go : (t : Bool) → (T (not t) → n ≤ j) → (if t then [] else row_of n counts pool (j - n)) ≡ (if t then [] else row_of n counts' pool' (j - n))
          go true f = refl
          go false f = o (j - n) (λ q. d (omega (arith, f tt)))

  -- a store to the count of group b
  pub pooled_count : (b m : ℕ) → n ≤ b → b - n < length counts
      → pooled n (set counts (b - n) m) pool ≡ set (pooled n counts pool) b (take m (places n pool (b - n)))
  pooled_count b m h l = one_row (set counts (b - n) m) pool b (take m (places n pool (b - n))) h
      (ap (λ (c : ℕ). take c (places n pool (b - n))) (get_or-set_same counts (b - n) m 0 l))
      (λ g d. ap (λ (c : ℕ). take c (places n pool g)) (sym (get_or-set_other counts (b - n) g m 0 d)))

  -- where all counts are 0 all rows are empty
  pub pooled_empty : ((g : ℕ) → get_or counts g 0 ≡ 0) → pooled n counts pool ≡ replicate (2 * n) []
  pooled_empty e = constant_rows (row_in n counts pool) [] (2 * n) empty
    where
      empty : (b : ℕ) → row_in n counts pool b ≡ []
      empty b = go (ltb b n)
        where
          go : (t : Bool) → (if t then [] else row_of n counts pool (b - n)) ≡ []
          go true = refl
          go false = ap (λ (k : ℕ). take k (places n pool (b - n))) (e (b - n))

-- the row of group b rewritten whole: the pool is a, the row's entries in use, and what is after them
pub pooled_row : (n : ℕ) (counts a r r' c : List ℕ) (b : ℕ) → n ≤ b → length a ≡ (b - n) * n → length r ≡ min (get_or counts (b - n) 0) n → length r' ≡ length r
    → pooled n counts (a ++ (r' ++ c)) ≡ set (pooled n counts (a ++ (r ++ c))) b r'
pooled_row n counts a r r' c b h e k l = one_row n counts (a ++ (r ++ c)) counts (a ++ (r' ++ c)) b r' h
    (row_whole n a c (b - n) e counts r' (l ∙ k))
    (λ g d. ap (take (get_or counts g 0)) (other_row n a c (b - n) e r r' (sym l) (omega arith) g d))

-- ---- a loop through the row of a group: what is left from place k on is the whole

module _ {S : Type 0} (f : ℕ → S → Run S) (n : ℕ) (counts kids : List ℕ) (fits : PoolFits n counts kids) (g : ℕ) (inside : g < n) where
  row_length : length (row_of n counts kids g) ≡ min (get_or counts g 0) n
  row_length = row_of_length n counts kids g (omega (arith, place_row n g inside, fits.places))

  pub row_next : {whole : Run S} (m k c : ℕ) (s : S) (r : Run S) → m ≡ min (get_or counts g 0) n → k < m → c ≡ get_or kids (g * n + k) 0 → r ≡ f c s
      → for_each f (drop k (row_of n counts kids g)) s ≡ whole → and_then r (for_each f (drop (k + 1) (row_of n counts kids g))) ≡ whole
  row_next m k c s r e h q l w =
      let i : k < length (row_of n counts kids g) = rw row_length (omega arith) in
      for_each_next f (row_of n counts kids g) 0 k (ok s) r i (l ∙ ap (λ (x : ℕ). f x s) (q ∙ sym (row_of_at n counts kids g k 0 (omega arith)))) w

  pub row_end : {whole : Run S} (m k : ℕ) (s : S) → m ≡ min (get_or counts g 0) n → m ≤ k
      → for_each f (drop k (row_of n counts kids g)) s ≡ whole → ok s ≡ whole
  row_end m k s e h w = for_each_end f (row_of n counts kids g) k (ok s) (rw row_length (omega arith)) w
