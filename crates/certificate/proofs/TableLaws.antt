-- The table of chains: how a climb fills a row, how a row is read, and how two rows are compared from the top.
use Rattle.std.specs.Prelude.{if◌then◌else◌}
use mathlib.Core.Path.{◌≡◌, refl, sym, ap, subst, ◌∙◌}
use mathlib.Core.Bool.{Bool, ◌||◌}
use mathlib.Core.Logic.{⊎_elim}
use mathlib.Core.List.{List, [], ◌∷◌}
use Prim.Native.Nat.{ℕ, zero, suc, ◌+◌, ◌*◌, ◌-◌, ◌<◌, ◌≤◌, zero-le}
use native.Mathlib.Nat.{mul-le-mul_right, eq-or-lt_of_le}
use native.Mathlib.Numerals.{add-one, sub-one}
use native.Mathlib.Omega.{arith}
use borrow.Author.Tests.{eq-eqb, ne_eqb}
use lib.Dec.{T}
use lib.ListN.{length, get_or, set, take, drop, length-take, length-drop, length-set}
use lib.Seq.{ext_get_or, get_or-take, get_or-drop, get_or-set_same, get_or-set_other, drop-cons}
use Rattle.matching.specs.Graph.{missing, is_missing}
use Rattle.matching.specs.Certificate.{parent_of}
use Rattle.matching.specs.Tests.{climb_ends}
use Rattle.certificate.specs.Chains.{chain, Named, Climbing, Climbed, Row, Table}
use Rattle.numbers.proofs.PoolLaws.{place_row}
use Rattle.laws.proofs.Loops.{is_true}
use Rattle.certificate.proofs.ListLaws.{parent_at}
use Rattle.certificate.proofs.ChainLaws.{chain_length}

-- ---- climbing

-- the chain from p on, where p has been read already, and that it ends
pub from : (parents : List ℕ) → ℕ → ℕ → List ℕ
from parents m p = if is_missing p then [] else p ∷ chain parents m p

pub Ends : (parents : List ℕ) → ℕ → ℕ → Type 0
Ends parents m p = T (is_missing p || climb_ends parents m p)

module _ (parents : List ℕ) where
  chain_from : (m i : ℕ) → chain parents (suc m) i ≡ from parents m (parent_of parents i)
  unfolding chain from
  chain_from m i = refl

  ends_from : (m i : ℕ) → T (climb_ends parents (suc m) i) → Ends parents m (parent_of parents i)
  unfolding Ends climb_ends
  ends_from m i t = t

  not_missing : (m p : ℕ) → (p ≡ missing → ⊥) → Ends parents m p → T (climb_ends parents m p)
  unfolding Ends
  not_missing m p q t = subst (λ (b : Bool). T (b || climb_ends parents m p)) (ne_eqb p missing q) t

  ended : (m p : ℕ) → T (is_missing p) → Ends parents m p
  unfolding Ends
  ended m p t = rw (is_true {t = is_missing p} t) tt

  next_ends : (m p : ℕ) → T (climb_ends parents m p) → Ends parents (m - 1) (parent_of parents p)
  unfolding climb_ends
  next_ends zero p t = ended (0 - 1) (parent_of parents p) t
  next_ends (suc m) p t = rw (sub-one) (ends_from m p t)

  pub from_ends : (m p : ℕ) → (p ≡ missing → ⊥) → Ends parents m p → Ends parents (m - 1) (parent_of parents p)
  from_ends m p q e = next_ends m p (not_missing m p q e)

  last_from : (m p : ℕ) → T (is_missing p) → from parents m p ≡ []
  unfolding from
  last_from m p t = rw (is_true {t = is_missing p} t)

  next_from : (m p : ℕ) → T (climb_ends parents m p) → chain parents m p ≡ from parents (m - 1) (parent_of parents p)
  unfolding climb_ends chain
  next_from zero p t = sym (last_from (0 - 1) (parent_of parents p) t)
  next_from (suc m) p t = rw (sub-one) (chain_from m p)

  pub from_more : (m p : ℕ) → (p ≡ missing → ⊥) → Ends parents m p → from parents m p ≡ p ∷ from parents (m - 1) (parent_of parents p)
  unfolding from
  from_more m p q e = rw (ne_eqb p missing q) (ap {B = List ℕ} (λ r. p ∷ r) (next_from m p (not_missing m p q e)))

  pub from_none : (m p : ℕ) → p ≡ missing → from parents m p ≡ []
  unfolding from
  from_none m p e = rw (eq-eqb p missing e)

  pub whole_from : (n v : ℕ) → 0 < n → chain parents n v ≡ from parents (n - 1) (parent_of parents v)
  whole_from n v h =
      let e : n ≡ suc (n - 1) = omega arith in
      ap (λ (k : ℕ). chain parents k v) e ∙ chain_from (n - 1) v

  pub whole_ends : (n v : ℕ) → 0 < n → T (climb_ends parents n v) → Ends parents (n - 1) (parent_of parents v)
  whole_ends n v h t =
      let e : n ≡ suc (n - 1) = omega arith in
      ends_from (n - 1) v (subst (λ (k : ℕ). T (climb_ends parents k v)) e t)

-- what has been climbed: k groups stand in the row, and p is the next
pub record Rising (n : ℕ) (parents before : List ℕ) (row p₀ : ℕ) (after : List ℕ) (p k : ℕ) : Type 0 where
  pub few : k ≤ n
  pub short : length (from parents (n - 1) p₀) ≤ n
  pub rest : drop k (from parents (n - 1) p₀) ≡ from parents (n - 1 - k) p
  pub counted : k ≤ length (from parents (n - 1) p₀)
  pub ends : Ends parents (n - 1 - k) p
  pub written : (j : ℕ) → j < k → get_or after (row + j) 0 ≡ get_or (from parents (n - 1) p₀) j 0
  pub ahead : (i : ℕ) → i < row → get_or after i 0 ≡ get_or before i 0
  pub as_long : length after ≡ length before
  pub room : row + n ≤ length before
  pub known : (p ≡ missing → ⊥) → p < 2 * n

module _ (n : ℕ) (parents before : List ℕ) (row p₀ : ℕ) (after : List ℕ) (p k : ℕ) (named : Named n parents) (r : Rising n parents before row p₀ after p k)
    (q : p ≡ missing → ⊥) where
  here : drop k (from parents (n - 1) p₀) ≡ p ∷ from parents (n - 1 - k - 1) (parent_of parents p)
  here = r.rest ∙ from_more parents (n - 1 - k) p q r.ends

  long : length (from parents (n - 1) p₀) - k ≡ suc (length (from parents (n - 1 - k - 1) (parent_of parents p)))
  long = sym (length-drop k (from parents (n - 1) p₀)) ∙ ap length here

  pub rising_in : k < length (from parents (n - 1) p₀)
  rising_in = omega (arith, long)

  pub rising_few : k < n
  rising_few = omega (arith, rising_in, r.short)

  same_step : n - 1 - k - 1 ≡ n - 1 - (k + 1)
  same_step = omega arith

  cons : drop k (from parents (n - 1) p₀) ≡ get_or (from parents (n - 1) p₀) k 0 ∷ drop (suc k) (from parents (n - 1) p₀)
  cons = drop-cons (from parents (n - 1) p₀) k 0 rising_in

  head_is : get_or (from parents (n - 1) p₀) k 0 ≡ p
  head_is = ap (λ (l : List ℕ). get_or l 0 0) (sym cons ∙ here)

  tail_is : drop (suc k) (from parents (n - 1) p₀) ≡ from parents (n - 1 - k - 1) (parent_of parents p)
  tail_is = ap {B = List ℕ} (λ (l : List ℕ). drop 1 l) (sym cons ∙ here)

  pub rising_next : Rising n parents before row p₀ (set after (row + k) p) (get_or parents p 0) (k + 1)
  rising_next =
      let e : parent_of parents p ≡ get_or parents p 0 = parent_at n parents named.as_many p (r.known q) in
      record {
        few = omega (arith, rising_few);
        short = r.short;
        rest = ap (λ (x : ℕ). drop x (from parents (n - 1) p₀)) (add-one k) ∙ tail_is ∙ ap₂' same_step e;
        counted = omega (arith, rising_in);
        ends = subst (λ (x : ℕ). Ends parents (n - 1 - (k + 1)) x) e (subst (λ (m : ℕ). Ends parents m (parent_of parents p)) same_step
            (from_ends parents (n - 1 - k) p q r.ends));
        written = λ j h. ⊎_elim (λ (z : suc j ≡ suc k). last j (omega arith)) (λ (z : suc j < suc k). earlier j (omega arith)) (eq-or-lt_of_le (up_to j h));
        ahead = λ i h. get_or-set_other after (row + k) i p 0 (λ z. omega arith) ∙ r.ahead i h;
        as_long = length-set after (row + k) p ∙ r.as_long;
        room = r.room;
        known = λ z. (named.is_group p (r.known q) z).1;
      }
    where
      ap₂' : {m m' x x' : ℕ} → m ≡ m' → x ≡ x' → from parents m x ≡ from parents m' x'
      ap₂' e f = rw (e, f)

      up_to : (j : ℕ) → j < k + 1 → suc j ≤ suc k
      up_to j h = omega arith

      last : (j : ℕ) → j ≡ k → get_or (set after (row + k) p) (row + j) 0 ≡ get_or (from parents (n - 1) p₀) j 0
      last j e = rw e (get_or-set_same after (row + k) p 0 (omega (arith, r.as_long, r.room, rising_few)) ∙ sym head_is)

      earlier : (j : ℕ) → j < k → get_or (set after (row + k) p) (row + j) 0 ≡ get_or (from parents (n - 1) p₀) j 0
      earlier j h = get_or-set_other after (row + k) (row + j) p 0 (λ z. omega arith) ∙ r.written j h

-- at first, and at last
module _ (n : ℕ) (parents before : List ℕ) (v : ℕ) (climbing : Climbing n parents) (h : v < n) (room : n * n ≤ length before) where
  first_parent : parent_of parents v ≡ get_or parents v 0
  first_parent = parent_at n parents climbing.named.as_many v (omega arith)

  chain_is : chain parents n v ≡ from parents (n - 1) (get_or parents v 0)
  chain_is = whole_from parents n v (omega arith) ∙ ap (from parents (n - 1)) first_parent

  pub rising_start : Rising n parents before (v * n) (get_or parents v 0) before (get_or parents v 0) 0
  rising_start =
      let z : n - 1 - 0 ≡ n - 1 = omega arith in
      record {
        few = zero-le;
        short = subst (λ (l : List ℕ). length l ≤ n) chain_is (chain_length parents n v);
        rest = rw z;
        counted = zero-le;
        ends = rw z (subst (λ (x : ℕ). Ends parents (n - 1) x) first_parent (whole_ends parents n v (omega arith) (climbing.ends v (omega arith))));
        written = λ j l. let no_way : ⊥ = omega arith in absurd no_way;
        ahead = λ i l. refl;
        as_long = refl;
        room = omega (arith, place_row n v h);
        known = λ q. (climbing.named.is_group v (omega arith) q).1;
      }

  pub rising_end : (after : List ℕ) (p k : ℕ) → Rising n parents before (v * n) (get_or parents v 0) after p k → p ≡ missing
      → Climbed n parents v before after k
  rising_end after p k r e =
      let none : drop k (from parents (n - 1) (get_or parents v 0)) ≡ [] = r.rest ∙ from_none parents (n - 1 - k) p e in
      let over : length (from parents (n - 1) (get_or parents v 0)) - k ≡ 0 = sym (length-drop k (from parents (n - 1) (get_or parents v 0)))
      ∙ ap length none in
      let count : k ≡ length (from parents (n - 1) (get_or parents v 0)) = omega (arith, r.counted) in
      record {
        count = count ∙ sym (ap length chain_is);
        entry = λ j l. r.written j (omega (arith, ap length chain_is)) ∙ sym (ap (λ (w : List ℕ). get_or w j 0) chain_is);
        ahead = r.ahead;
        as_long = r.as_long;
      }

-- ---- the table, row by row

pub record Filled (n : ℕ) (parents counts pool : List ℕ) (v : ℕ) : Type 0 where
  pub few : v ≤ n
  pub counts_fit : n ≤ length counts
  pub pool_fits : n * n ≤ length pool
  pub rows : (u : ℕ) → u < v → Row n parents counts pool u

pub filled_next : (n : ℕ) (parents counts pool pool' : List ℕ) (v k : ℕ) → v < n → Filled n parents counts pool v → Climbed n parents v pool pool' k
    → Filled n parents (set counts v k) pool' (v + 1)
filled_next n parents counts pool pool' v k h f c = record {
  few = omega arith;
  counts_fit = rw (length-set counts v k) f.counts_fit;
  pool_fits = rw c.as_long f.pool_fits;
  rows = λ u l. ⊎_elim (λ (z : suc u ≡ suc v). this u (omega arith)) (λ (z : suc u < suc v). earlier u (omega arith)) (eq-or-lt_of_le (up_to u l));
}
  where
    up_to : (u : ℕ) → u < v + 1 → suc u ≤ suc v
    up_to u l = omega arith

    this : (u : ℕ) → u ≡ v → Row n parents (set counts v k) pool' u
    this u e = rw e (record { count = get_or-set_same counts v k 0 (omega (arith, f.counts_fit)) ∙ c.count; entry = c.entry })

    earlier : (u : ℕ) → u < v → Row n parents (set counts v k) pool' u
    earlier u l =
        let r = f.rows u l in
        record {
          count = get_or-set_other counts v u k 0 (λ z. omega arith) ∙ r.count;
          entry = λ j m. c.ahead (u * n + j) (omega (arith, mul-le-mul_right n l, chain_length parents n u)) ∙ r.entry j m;
        }

-- ---- reading a row

module _ (n : ℕ) (counts pool parents : List ℕ) (t : Table n counts pool parents) (v : ℕ) (h : v < n) where
  count_fits : get_or counts v 0 ≤ n
  count_fits = omega (arith, (t.row v h).count, chain_length parents n v)

  pub row_fits : v * n + get_or counts v 0 ≤ length pool
  row_fits = omega (arith, count_fits, place_row n v h, t.pool_fits)

  row_length : length (take (get_or counts v 0) (drop (v * n) pool)) ≡ get_or counts v 0
  row_length = simp (length-take, length-drop) (omega (arith, count_fits, place_row n v h, t.pool_fits))

  pub row_is : take (get_or counts v 0) (drop (v * n) pool) ≡ chain parents n v
  row_is = ext_get_or 0 (take (get_or counts v 0) (drop (v * n) pool)) (chain parents n v) (row_length ∙ (t.row v h).count)
      (λ k l. get_or-take (get_or counts v 0) (drop (v * n) pool) k 0 (omega (arith, row_length))
      ∙ get_or-drop (v * n) pool k 0
      ∙ (t.row v h).entry k (omega (arith, row_length, (t.row v h).count)))
