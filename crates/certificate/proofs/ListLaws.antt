-- What the code reads is what the definition reads: the entries of lists, where the numbers are in range.
use mathlib.Core.Path.{◌≡◌, refl, sym, ◌∙◌}
use mathlib.Core.Bool.{Bool, true, not, ◌&&◌, ◌||◌}
use mathlib.Core.Logic.{◌⊎◌, ⊎_elim}
use mathlib.Core.List.{List, []}
use Prim.Native.Nat.{ℕ, zero, suc, ◌+◌, ◌*◌, ◌-◌, ◌<◌, ◌≤◌}
use native.Mathlib.Omega.{arith}
use borrow.Author.Tests.{eq-eqb, ne_eqb}
use lib.Dec.{eqb}
use lib.IntN.{ℤ, pos, ◌+ℤ◌}
use lib.ListN.{length, get_or, drop, drop_of_length-le}
use lib.Seq.{drop-cons}
use Rattle.std.specs.List.{list_all}
use Rattle.laws.specs.Integers.{is_zero}
use Rattle.laws.specs.Lists.{all, range}
use Rattle.laws.proofs.Decides.{Decides, equal, at_most, less, both, either, below, itself}
use Rattle.matching.specs.Graph.{missing, is_missing, first_of, second_of, weight_of, edge_count}
use Rattle.matching.specs.Certificate.{parent_of, mate_of, dual_of, offset}
use Rattle.matching.specs.Tests.{climb_ends, parent_test, dual_test, free_test}
use Rattle.matching.proofs.Readings.{of_slices}
use Rattle.certificate.specs.Chains.{Named, Climbing}
use Rattle.certificate.specs.Lists.{Known, Weighed, lent, bare, parent_named, named_at, dual_fits, certificate_of}
use Rattle.laws.proofs.Loops.{get_d_any, all_same, all_both, of_true}

-- ---- a test of each entry, as a test of each place

module _ {A : Type 0} (p : A → Bool) (xs : List A) (d : A) where
  from_place : (m i : ℕ) → i + m ≡ length xs → all (λ k. p (get_or xs k d)) (range i m) ≡ list_all p (drop i xs)
  unfolding all range
  from_place zero i e = rw (drop_of_length-le xs {i = i} (omega arith))
  from_place (suc m) i e = rw (drop-cons xs i d (omega arith), from_place m (suc i) (omega arith))

  pub all_entries : all (λ k. p (get_or xs k d)) (range 0 (length xs)) ≡ list_all p xs
  all_entries = from_place (length xs) 0 (omega arith)

-- ---- climbing

module _ (n : ℕ) (parents : List ℕ) (long : length parents ≡ 2 * n) where
  pub parent_at : (i : ℕ) → i < 2 * n → parent_of parents i ≡ get_or parents i 0
  unfolding parent_of
  parent_at i h = get_d_any parents i missing 0 (omega arith)

  module _ {whole : Bool} (at : ℕ) (h : at < 2 * n) where
    pub climb_stop : (m : ℕ) → get_or parents at 0 ≡ missing → climb_ends parents m at ≡ whole → true ≡ whole
    unfolding climb_ends
    climb_stop zero e w = rw (parent_at at h, eq-eqb (get_or parents at 0) missing e) at w
    climb_stop (suc m) e w = rw (parent_at at h, eq-eqb (get_or parents at 0) missing e) at w

    climb_suc : (m : ℕ) → (get_or parents at 0 ≡ missing → ⊥) → climb_ends parents (suc m) at ≡ whole → climb_ends parents m (get_or parents at 0) ≡ whole
    unfolding climb_ends
    climb_suc m e w = rw (parent_at at h, ne_eqb (get_or parents at 0) missing e) at w

    pub climb_more : (k : ℕ) → k < n → (get_or parents at 0 ≡ missing → ⊥) → climb_ends parents (n - k) at ≡ whole
        → climb_ends parents (n - (k + 1)) (get_or parents at 0) ≡ whole
    climb_more k l e w =
        let q : n - k ≡ suc (n - (k + 1)) = omega arith in
        climb_suc (n - (k + 1)) e (rw q at w)

    pub climb_last : (m : ℕ) → m ≡ 0 → climb_ends parents m at ≡ whole → eqb (get_or parents at 0) missing ≡ whole
    unfolding climb_ends
    climb_last m e w = rw (parent_at at h) at (rw e at w)

  -- ---- PARENT: all are named, and all climbs end

  parent_test_lem : (i : ℕ) → i < 2 * n → parent_test (bare n) parents i ≡ (named_at n parents i && climb_ends parents n i)
  unfolding parent_test named_at parent_named
  parent_test_lem i h = rw (parent_at i h)

  pub parents_all : all (parent_test (bare n) parents) (range 0 (2 * n))
      ≡ (all (named_at n parents) (range 0 (2 * n)) && all (climb_ends parents n) (range 0 (2 * n)))
  parents_all = all_same (parent_test (bare n) parents) (λ i. named_at n parents i && climb_ends parents n i) 0 (2 * n) (λ i l m. one i m)
      ∙ all_both (named_at n parents) (climb_ends parents n) (range 0 (2 * n))
    where
      one : (i : ℕ) → i < 0 + 2 * n → parent_test (bare n) parents i ≡ (named_at n parents i && climb_ends parents n i)
      one i m = parent_test_lem i (omega arith)

  named_decided : (i : ℕ) → Decides ((get_or parents i 0 ≡ missing) ⊎ ((n ≤ get_or parents i 0) × (get_or parents i 0 < 2 * n))) (named_at n parents i)
  unfolding named_at parent_named
  named_decided i = either (equal (get_or parents i 0) missing) (both (at_most n (get_or parents i 0)) (less (get_or parents i 0) (2 * n)))

  pub named_listed : list_all (parent_named n) parents ≡ all (named_at n parents) (range 0 (2 * n))
  unfolding named_at
  named_listed = rw (← long) (sym (all_entries (parent_named n) parents 0))

  pub all_named : all (named_at n parents) (range 0 (2 * n)) ≡ true → Named n parents
  all_named e = record {
    as_many = long;
    is_group = λ i h q. ⊎_elim (λ z. absurd (q z)) (λ g. g) ((below named_decided (2 * n)).sound (of_true e) i h);
  }

  pub all_climb : Named n parents → all (climb_ends parents n) (range 0 (2 * n)) ≡ true → Climbing n parents
  all_climb k e = record { named = k; ends = (below (λ i. itself (climb_ends parents n i)) (2 * n)).sound (of_true e) }

-- ---- the graph of three lists

module _ (n : ℕ) (first second : List ℕ) (weight : List ℤ) (k : Known n first second) (w : Weighed first weight) where
  pub slices : (e : ℕ) → (edge_count (lent n first second weight) ≡ length first)
      × (first_of (lent n first second weight) e ≡ get_or first e 0) × (second_of (lent n first second weight) e ≡ get_or second e 0) ×
      (weight_of (lent n first second weight) e ≡ get_or weight e (pos 0))
  slices e = of_slices n first second weight e (sym k.seconds) (k.seconds ∙ sym w.weights)

-- ---- DUAL and FREE at one number

pub dual_test_lem : (n : ℕ) (flag : Bool) (duals : List ℤ) (i : ℕ) → dual_test (bare n) flag duals i ≡ dual_fits n flag i (get_or duals i (pos 0))
unfolding dual_test dual_fits dual_of
dual_test_lem n flag duals i = refl

pub free_test_lem : (n : ℕ) (flag : Bool) (mates : List ℕ) (duals : List ℤ) (v : ℕ) → length mates ≡ n → v < n
    → free_test (bare n) flag (certificate_of mates duals []) v
    ≡ (not (is_missing (get_or mates v 0)) || is_zero (get_or duals v (pos 0) +ℤ offset (bare n) flag duals))
unfolding free_test mate_of dual_of
free_test_lem n flag mates duals v long h = rw (get_d_any mates v missing 0 (omega arith))
