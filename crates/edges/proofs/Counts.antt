-- How many entries of a list are a number, and how many are below it.
use mathlib.Core.Path.{◌≡◌, refl, sym, ap, ◌∙◌}
use mathlib.Core.Logic.{◌≢◌, ⊎_elim}
use mathlib.Core.List.{List, [], ◌∷◌}
use Prim.Native.Nat.{ℕ, zero, suc, ◌+◌, ◌<◌, ◌≤◌, zero-le}
use native.Mathlib.Numerals.{add-one}
use native.Mathlib.Omega.{arith}
use borrow.Author.Tests.{lt-ltb, le-ltb}
use lib.Dec.{ltb, eqb}
use lib.ListN.{length, get_or, set, drop, drop_of_length-le}
use lib.Seq.{drop-cons, get_or-set_same, get_or-set_other}
use Rattle.laws.specs.Lists.{bit}
use Rattle.laws.specs.Times.{times}
use Rattle.laws.proofs.Times.{same_or_not, less_or_not, bit_same, bit_other, bit_le, times_nil, times_here, times_later}
use Rattle.edges.specs.Neighbours.{below, Counted, sum_to, Summed}

bit_below : (x v : ℕ) → x < v → bit (ltb x v) ≡ 1
bit_below x v h = rw (lt-ltb x v h)

bit_above : (x v : ℕ) → v ≤ x → bit (ltb x v) ≡ 0
bit_above x v h = rw (le-ltb x v h)

step : (x v : ℕ) → bit (ltb x (suc v)) ≡ bit (ltb x v) + bit (eqb x v)
step x v = ⊎_elim
    (λ e. omega (arith, bit_below x (suc v) (omega arith), bit_above x v (omega arith), bit_same x v e))
    (λ d. ⊎_elim
    (λ l. omega (arith, bit_below x (suc v) (omega arith), bit_below x v l, bit_other x v d))
    (λ l. omega (arith, bit_above x (suc v) (omega arith), bit_above x v l, bit_other x v d))
    (less_or_not x v))
    (same_or_not x v)

pub below_next : (v : ℕ) (l : List ℕ) → below (suc v) l ≡ below v l + times v l
unfolding below times
below_next v [] = refl
below_next v (x ∷ xs) = omega (arith, step x v, below_next v xs)

pub below_none : (l : List ℕ) → below 0 l ≡ 0
unfolding below
below_none [] = refl
below_none (x ∷ xs) = omega (arith, bit_above x 0 zero-le, below_none xs)

pub below_le : (v : ℕ) (l : List ℕ) → below v l ≤ length l
unfolding below
below_le v [] = zero-le
below_le v (x ∷ xs) = omega (arith, bit_le (ltb x v), below_le v xs)

pub below_mono : (v w : ℕ) (l : List ℕ) → v ≤ w → below v l ≤ below w l
unfolding below
below_mono v w [] h = zero-le
below_mono v w (x ∷ xs) h = ⊎_elim
    (λ l. omega (arith, bit_below x v l, bit_below x w (omega arith), below_mono v w xs h))
    (λ l. omega (arith, bit_above x v l, below_mono v w xs h))
    (less_or_not x v)

pub times_le : (v : ℕ) (l : List ℕ) → times v l ≤ length l
unfolding times
times_le v [] = zero-le
times_le v (x ∷ xs) = omega (arith, bit_le (eqb x v), times_le v xs)

pub times_drop : (v k : ℕ) (l : List ℕ) → times v (drop k l) ≤ times v l
unfolding times
times_drop v zero l = omega arith
times_drop v (suc k) [] = zero-le
times_drop v (suc k) (x ∷ xs) = omega (arith, times_drop v k xs)

-- the ends before entry i are counted
pub record Counting (n i : ℕ) (ends counts : List ℕ) : Type 0 where
  pub counting : (v : ℕ) → v < n → get_or counts v 0 + times v (drop i ends) ≡ times v ends

-- one entry further back
module _ (ends : List ℕ) (p q : ℕ) (e : suc q ≡ p) (h : q < length ends) where
  pub back : drop q ends ≡ get_or ends q 0 ∷ drop p ends
  back = drop-cons ends q 0 h ∙ ap (λ (k : ℕ). get_or ends q 0 ∷ drop k ends) e

  pub back_here : times (get_or ends q 0) (drop q ends) ≡ suc (times (get_or ends q 0) (drop p ends))
  back_here = rw back (times_here (get_or ends q 0) (drop p ends))

  pub back_other : (v : ℕ) → get_or ends q 0 ≢ v → times v (drop q ends) ≡ times v (drop p ends)
  back_other v d = rw back (times_later v (get_or ends q 0) (drop p ends) d)

  -- the entry is counted
  pub count_more : (n : ℕ) (counts : List ℕ) → n < length counts → get_or ends q 0 < n → Counting n q ends counts
      → Counting n p ends (set counts (get_or ends q 0) (get_or counts (get_or ends q 0) 0 + 1))
  count_more n counts l i c = record { counting = each }
    where
      x : ℕ
      x = get_or ends q 0

      each : (v : ℕ) → v < n → get_or (set counts x (get_or counts x 0 + 1)) v 0 + times v (drop p ends) ≡ times v ends
      each v k = ⊎_elim
          (λ same. rw (← same, get_or-set_same counts x (get_or counts x 0 + 1) 0 (omega arith)) (omega (arith, back_here, c.counting x i)))
          (λ d. rw (get_or-set_other counts x v (get_or counts x 0 + 1) 0 (λ r. d (sym r))) (omega (arith, back_other v d, c.counting v k)))
          (same_or_not x v)

  pub count_skip : (n : ℕ) (counts : List ℕ) → n ≤ get_or ends q 0 → Counting n q ends counts → Counting n p ends counts
  count_skip n counts i c = record { counting = λ v k. omega (arith, back_other v (λ r. omega arith), c.counting v k) }

-- ---- sums

pub sum_below : (n : ℕ) (ends counts : List ℕ) → Counted n ends counts → (v : ℕ) → v ≤ n → sum_to counts v ≡ below v ends
unfolding sum_to
sum_below n ends counts c zero h = sym (below_none ends)
sum_below n ends counts c (suc v) h = omega (arith, sum_below n ends counts c v (omega arith), c.counted v h, below_next v ends)

pub sum_mono : (l : List ℕ) (v w : ℕ) → v ≤ w → sum_to l v ≤ sum_to l w
unfolding sum_to
sum_mono l v zero h = rw (nought v h) (omega arith)
  where
    nought : (v : ℕ) → v ≤ 0 → v ≡ 0
    nought v h = omega arith
sum_mono l v (suc w) h = ⊎_elim (λ k. omega (arith, sum_mono l v w (omega arith))) (λ k. rw (same v (suc w) h k) (omega arith)) (less_or_not v (suc w))
  where
    same : (a b : ℕ) → a ≤ b → b ≤ a → a ≡ b
    same a b h k = omega arith

-- the sums of the first v stand, the other entries are as they were
pub record Summing (counts : List ℕ) (v : ℕ) (l : List ℕ) : Type 0 where
  pub done : (u : ℕ) → u < v → get_or l u 0 ≡ sum_to counts (u + 1)
  pub rest : (u : ℕ) → v ≤ u → get_or l u 0 ≡ get_or counts u 0

pub summing_none : (counts : List ℕ) → Summing counts 0 counts
summing_none counts = record { done = λ u h. let no_way : ⊥ = omega arith in absurd no_way; rest = λ u h. refl }

module _ (counts l : List ℕ) (v t : ℕ) (s : Summing counts v l) (e : t ≡ sum_to counts v) where
  pub sum_next : t + get_or l v 0 ≡ sum_to counts (v + 1)
  unfolding sum_to
  sum_next = rw (add-one v) (omega (arith, s.rest v (omega arith)))

  pub summing_more : v < length l → Summing counts (v + 1) (set l v (t + get_or l v 0))
  summing_more h = record {
    done = λ u k. ⊎_elim
        (λ q. rw q (get_or-set_same l v (t + get_or l v 0) 0 h ∙ sum_next))
        (λ d. get_or-set_other l v u (t + get_or l v 0) 0 d ∙ s.done u (omega arith))
        (same_or_not u v);
    rest = λ u k. get_or-set_other l v u (t + get_or l v 0) 0 (λ q. omega arith) ∙ s.rest u (omega arith);
  }

  pub summing_end : v < length l → Summed v counts (set l v t)
  summing_end h = record {
    summed = λ u k. get_or-set_other l v u t 0 (λ q. omega arith) ∙ s.done u k;
    last = get_or-set_same l v t 0 h ∙ e;
  }

-- all ends are counted
pub count_end : (n i : ℕ) (ends counts : List ℕ) → length ends ≤ i → Counting n i ends counts → Counted n ends counts
count_end n i ends counts h c = record { counted = λ v l. omega (arith, ap (times v) (drop_of_length-le ends h), times_nil v, c.counting v l) }

-- no more than there are ends
pub sum_le : (n : ℕ) (ends counts : List ℕ) → Counted n ends counts → sum_to counts n ≤ length ends
sum_le n ends counts c = omega (arith, sum_below n ends counts c n (omega arith), below_le n ends)
