-- FULL: the list of matched edges as it grows, and the test of one group.
use Rattle.std.specs.Prelude.{if◌then◌else◌}
use mathlib.Core.Path.{◌≡◌, refl, sym, ap, ◌∙◌}
use mathlib.Core.Bool.{Bool, true, false}
use mathlib.Core.Logic.{◌≢◌}
use mathlib.Core.List.{List, [], ◌∷◌, ◌++◌}
use Prim.Native.Nat.{ℕ, zero, suc, ◌+◌, ◌-◌, ◌/◌, ◌%◌, ◌<◌, ◌≤◌, zero-le}
use native.Mathlib.Nat.{le_refl}
use native.Mathlib.Numerals.{add-one}
use native.Mathlib.Omega.{arith}
use borrow.Author.Tests.{eq-eqb, ne_eqb}
use lib.Dec.{eqb}
use lib.IntN.{ℤ, pos}
use lib.ListN.{length, get_or, set, take, drop, drop_of_length-le}
use lib.Seq.{take-suc-set, take-set-le, drop-cons}
use lib.Signed.{le_z}
use Rattle.laws.specs.Lists.{bit, keep, range, sum}
use Rattle.laws.proofs.Lists.{each_at, each_keep, each_range}
use Rattle.matching.specs.Graph.{Graph, edge_count}
use Rattle.matching.specs.Certificate.{Certificate, contains, size, within, matched, pairs, dual_of}
use Rattle.matching.specs.Tests.{full_test}
use Rattle.certificate.specs.Lists.{Known, Weighed, lent, bare}
use Rattle.laws.proofs.Loops.{keep_more, keep_skip}
use Rattle.certificate.proofs.IntakeLaws.{edges_length}
use Rattle.certificate.proofs.SignedLaws.{at_most_zero, above_zero}

module _ (p : ℕ → Bool) (list : List ℕ) (k e : ℕ) where
  pub list_next : (t : Bool) → k < length list → t ≡ p e → take k list ≡ keep p (range 0 e) → take (k + bit t) (set list k e) ≡ keep p (range 0 (e + 1))
  list_next true h q w = rw (add-one k) (take-suc-set list k e h ∙ ap {B = List ℕ} (λ (l : List ℕ). l ++ (e ∷ [])) w ∙ sym (keep_more p e (sym q)))
  list_next false h q w =
      let z : k + 0 ≡ k = omega arith in
      rw z (take-set-le k list k e (le_refl k) ∙ w ∙ sym (keep_skip p e (sym q)))

pub bit_few : (t : Bool) → bit t ≤ 1
bit_few true = omega arith
bit_few false = omega arith

-- ---- the pairs

length_keep : (p : ℕ → Bool) (s c : ℕ) → length (keep p (range s c)) ≤ c
unfolding keep range
length_keep p s zero = zero-le
length_keep p s (suc c) = go (p s) (length_keep p (suc s) c)
  where
    go : (t : Bool) → length (keep p (range (suc s) c)) ≤ c → length (if t then s ∷ keep p (range (suc s) c) else keep p (range (suc s) c)) ≤ suc c
    go true h = omega arith
    go false h = omega arith

module _ (G : Graph) (mates : List ℕ) where
  pub pairs_few : length (pairs G mates) ≤ edge_count G
  unfolding pairs
  pairs_few = length_keep (matched G mates) 0 (edge_count G)

  pub pair_below : (k : ℕ) → k < length (pairs G mates) → get_or (pairs G mates) k 0 < edge_count G
  unfolding pairs
  pair_below k h = each_at (λ e. e < edge_count G) (pairs G mates) k 0
      (each_keep (matched G mates) (λ e h t. h) (range 0 (edge_count G)) (each_range 0 (edge_count G) (λ i l h. omega arith))) h

module _ (n : ℕ) (first second : List ℕ) (weight : List ℤ) (k : Known n first second) (w : Weighed first weight) where
  pub count_few : edge_count (lent n first second weight) ≤ 2048
  count_few = omega (arith, k.few_edges, edges_length first second weight k.seconds w.weights)

  module _ (mates list : List ℕ) (q : list ≡ pairs (lent n first second weight) mates) where
    pub listed_few : length list ≤ 2048
    listed_few = rw q (omega (arith, count_few, pairs_few (lent n first second weight) mates))

    pub listed_below : (i : ℕ) → i < length list → get_or list i 0 < length first
    listed_below i h = rw q (omega (arith, pair_below (lent n first second weight) mates i (rw q at h), edges_length first second weight k.seconds w.weights))

module _ (f : ℕ → ℕ) (l : List ℕ) (k : ℕ) where
  pub entry_more : k < length l → sum (drop k l) f ≡ f (get_or l k 0) + sum (drop (k + 1) l) f
  unfolding sum
  entry_more h = rw (drop-cons l k 0 h, add-one k)

  pub entry_none : length l ≤ k → sum (drop k l) f ≡ 0
  unfolding sum
  entry_none h = rw (drop_of_length-le l {i = k} h)

pub ruleset listing = (entry_more, entry_none)

-- ---- one group

pub size_by : (n : ℕ) (first second : List ℕ) (weight : List ℤ) (parents : List ℕ) (B : ℕ) → size (lent n first second weight) parents B
    ≡ size (bare n) parents B
unfolding size contains
size_by n first second weight parents B = refl

module _ (G : Graph) (C : Certificate) (B : ℕ) where
  pub group_idle : le_z (dual_of C.duals B) (pos 0) ≡ true → full_test G C B ≡ true
  unfolding full_test
  group_idle h = rw (at_most_zero (dual_of C.duals B) h)

  module _ (h : le_z (dual_of C.duals B) (pos 0) ≡ false) (s : ℕ) (q : s ≡ size G C.parents B) where
    pub group_even : s % 2 ≢ 1 → full_test G C B ≡ false
    unfolding full_test
    group_even e = rw (above_zero (dual_of C.duals B) h, ← q, ne_eqb (s % 2) 1 e)

    pub group_odd : s % 2 ≡ 1 → (L : List ℕ) (w : ℕ) → L ≡ pairs G C.mates → w ≡ within G C.parents B L → full_test G C B ≡ eqb w (s / 2)
    unfolding full_test
    group_odd e L w l i =
        let z : (s - 1) / 2 ≡ s / 2 = omega arith in
        rw (above_zero (dual_of C.duals B) h, ← q, eq-eqb (s % 2) 1 e, z, i, l)

pub ruleset fullness = (size_by, group_idle, group_even, group_odd)
