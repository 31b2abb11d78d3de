-- The pairs found so far, node by node: how many, what they weigh, and their lines; and the pair at one node as the code reads it.
use Rattle.std.specs.Prelude.{if◌then◌else◌}
use mathlib.Core.Path.{◌≡◌, refl, sym, ap, ◌∙◌}
use mathlib.Core.Bool.{Bool, true, false}
use mathlib.Core.List.{List, [], ◌∷◌, ◌++◌, append_assoc, append-nil}
use Prim.Native.Nat.{ℕ, zero, suc, ◌+◌, ◌/◌, ◌≤◌, ◌<◌}
use native.Mathlib.Nat.{not-suc-le-zero}
use native.Mathlib.Numerals.{add-one}
use native.Mathlib.Omega.{arith}
use borrow.Author.Tests.{eq-eqb, ne_eqb, lt-ltb, le-ltb}
use lib.IntN.{ℤ, pos, ◌+ℤ◌, +ℤ_idl, +ℤ_idr, +ℤ_assoc}
use lib.ListN.{length, get_or, length-append}
use Rattle.laws.specs.Lists.{range, total}
use Rattle.matching.specs.Graph.{Graph, node_at, missing, is_odd}
use Rattle.matching.specs.Certificate.{mate_of}
use Rattle.matching.proofs.Readings.{of_slices}
use Rattle.certificate.specs.Lists.{lent, end_node}
use Rattle.laws.proofs.Loops.{get_d_any}
use Rattle.printed.specs.Answer.{Pair, pair_at, pairs_at, pair_line, pair_lines}
use Rattle.printed.specs.Found.{weights_total}

-- ---- lists of pairs, one after another

pub total_both : (xs ys : List Pair) → weights_total (xs ++ ys) ≡ weights_total xs +ℤ weights_total ys
unfolding total
total_both [] ys = sym (+ℤ_idl (weights_total ys))
total_both (x ∷ xs) ys = rw (total_both xs ys) (sym (+ℤ_assoc x.weight (weights_total xs) (weights_total ys)))

pub lines_both : (xs ys : List Pair) → pair_lines (xs ++ ys) ≡ pair_lines xs ++ pair_lines ys
unfolding pair_lines
lines_both [] ys = refl
lines_both (x ∷ xs) ys = rw (lines_both xs ys) (sym (append_assoc (pair_line x) (pair_lines xs) (pair_lines ys)))

pub one_line : (x : Pair) → pair_line x ≡ pair_lines (x ∷ [])
unfolding pair_lines
one_line x = sym (append-nil (pair_line x))

pub no_line : [] ≡ pair_lines []
unfolding pair_lines
no_line = refl

pub one_weight : (x : Pair) → x.weight ≡ weights_total (x ∷ [])
unfolding total
one_weight x = sym (+ℤ_idr x.weight)

pub no_weight : pos 0 ≡ weights_total []
unfolding total
no_weight = refl

-- ---- the pairs of the nodes below v

module _ (G : Graph) (mates : List ℕ) where
  pub pairs_none : pairs_at G mates (range 0 0) ≡ []
  unfolding pairs_at range
  pairs_none = refl

  pairs_last : (s c : ℕ) → pairs_at G mates (range s (suc c)) ≡ pairs_at G mates (range s c) ++ pair_at G mates (s + c)
  unfolding pairs_at range
  pairs_last s zero = let e : s + 0 ≡ s = omega arith in rw e (append-nil (pair_at G mates s))
  pairs_last s (suc c) =
      let e : s + suc c ≡ suc s + c = omega arith in
      rw (e, pairs_last (suc s) c) (sym (append_assoc (pair_at G mates s) (pairs_at G mates (range (suc s) c)) (pair_at G mates (suc s + c))))

  pub pairs_more : (v : ℕ) → pairs_at G mates (range 0 (v + 1)) ≡ pairs_at G mates (range 0 v) ++ pair_at G mates v
  pairs_more v = let e : 0 + v ≡ v = omega arith in rw (add-one v) (rw e at (pairs_last 0 v))

  pub count_more : (v : ℕ) → length (pairs_at G mates (range 0 (v + 1))) ≡ length (pairs_at G mates (range 0 v)) + length (pair_at G mates v)
  count_more v = ap length (pairs_more v) ∙ length-append (pairs_at G mates (range 0 v)) (pair_at G mates v)

  pub weight_more : (v : ℕ)
      → weights_total (pairs_at G mates (range 0 (v + 1))) ≡ weights_total (pairs_at G mates (range 0 v)) +ℤ weights_total (pair_at G mates v)
  weight_more v = ap weights_total (pairs_more v) ∙ total_both (pairs_at G mates (range 0 v)) (pair_at G mates v)

  module _ (v : ℕ) where
    pub count_one : (x : Pair) → x ∷ [] ≡ pair_at G mates v → length (pairs_at G mates (range 0 (v + 1))) ≡ length (pairs_at G mates (range 0 v)) + 1
    count_one x e = rw (count_more v, ← e) refl

    pub count_skip : [] ≡ pair_at G mates v → length (pairs_at G mates (range 0 (v + 1))) ≡ length (pairs_at G mates (range 0 v))
    count_skip e = omega (arith, count_more v, ap length e)

  pub lines_more : (v : ℕ) → pair_lines (pairs_at G mates (range 0 (v + 1))) ≡ pair_lines (pairs_at G mates (range 0 v)) ++ pair_lines (pair_at G mates v)
  lines_more v = ap pair_lines (pairs_more v) ∙ lines_both (pairs_at G mates (range 0 v)) (pair_at G mates v)

-- ---- the pair at one node

-- a list has nothing past its end
pub far : {A : Type 0} (xs : List A) (i : ℕ) (d : A) → length xs ≤ i → get_or xs i d ≡ d
far [] i d h = refl
far (x ∷ xs) zero d h = absurd (not-suc-le-zero h)
far (x ∷ xs) (suc i) d h = far xs i d (omega arith)

same_either : (t : Bool) (x : ℕ) → (if t then x else x) ≡ x
same_either true x = refl
same_either false x = refl

node_far : (first second : List ℕ) (p : ℕ) → length second ≡ length first → length first ≤ p / 2 → end_node first second p ≡ 0
unfolding end_node
node_far first second p k h = rw (far first (p / 2) 0 h, far second (p / 2) 0 (omega arith)) (same_either (is_odd p) 0)

module _ (n : ℕ) (first second : List ℕ) (weight : List ℤ) (k : length second ≡ length first) (w : length weight ≡ length first) where
  node_of : (p : ℕ) → node_at (lent n first second weight) p ≡ end_node first second p
  unfolding node_at end_node
  node_of p = let r = of_slices n first second weight (p / 2) (sym k) (k ∙ sym w) in rw (r.1, r.2)

  module _ (mates : List ℕ) (v : ℕ) (h : v < length mates) where
    mate_of_lem : mate_of mates v ≡ get_or mates v 0
    unfolding mate_of
    mate_of_lem = get_d_any mates v missing 0 h

    pub pair_none : get_or mates v 0 ≡ missing → [] ≡ pair_at (lent n first second weight) mates v
    unfolding pair_at
    pair_none e = rw (mate_of_lem, eq-eqb (get_or mates v 0) missing e)

    module _ (m : get_or mates v 0 ≡ missing → ⊥) where
      pub pair_turned : end_node first second (get_or mates v 0) ≤ v → [] ≡ pair_at (lent n first second weight) mates v
      unfolding pair_at
      pair_turned l = rw (mate_of_lem, ne_eqb (get_or mates v 0) missing m, node_of (get_or mates v 0), le-ltb v (end_node first second (get_or mates v 0)) l)

      pub pair_with : v < end_node first second (get_or mates v 0)
          → record { lower = v; higher = end_node first second (get_or mates v 0); weight = get_or weight (get_or mates v 0 / 2) (pos 0) } ∷ []
          ≡ pair_at (lent n first second weight) mates v
      unfolding pair_at
      pair_with l =
          rw (
            mate_of_lem,
            ne_eqb (get_or mates v 0) missing m,
            node_of (get_or mates v 0),
            lt-ltb v (end_node first second (get_or mates v 0)) l,
            (of_slices n first second weight (get_or mates v 0 / 2) (sym k) (k ∙ sym w)).3,
          )

      -- an end of no edge is at node 0, which is no higher node
      pub pair_out : length first ≤ get_or mates v 0 / 2 → [] ≡ pair_at (lent n first second weight) mates v
      pair_out l = pair_turned (omega (arith, node_far first second (get_or mates v 0) k l))

pub ruleset nodes = (pair_none, pair_turned, pair_with, pair_out)

pub ruleset counts = (pairs_none, count_one, count_skip)

pub ruleset weights = (pairs_none, no_weight, one_weight, weight_more)
