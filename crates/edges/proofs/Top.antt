-- The largest weight: the definition goes from the last edge to the first, the code from the first to the last.
use Rattle.std.proofs.Common.{◌≡◌, refl, sym, ap, ◌∙◌, arith, Bool, true, false, cond, ℕ, zero, suc, ◌+◌, ◌<◌, ◌≤◌, ℤ, pos, nat_abs}
use Rattle.std.proofs.Common.{List, [], ◌∷◌, length, get_or, drop}
use lib.ListN.{drop_of_length-le}
use lib.Signed.{◌≤ℤ◌, lt_z}
use native.Mathlib.Numerals.{add-one}
use Rattle.std.specs.Int.{int_max}
use Rattle.std.proofs.lemmas.Int.{ints, int_max_is}
use Rattle.laws.specs.Integers.{greater}
use Rattle.laws.proofs.Integers.{greater_near}
use Rattle.matching.specs.Graph.{Edge}
use Rattle.numbers.specs.Edges.{weights_of}
use Rattle.steps.specs.Ends.{top_weight}

max_is : (a b : ℤ) → greater a b ≡ int_max a b
unfolding greater
max_is a b = by (lt_z a b) refl
  where
    by : (t : Bool) → lt_z a b ≡ t → cond t b a ≡ int_max a b
    by true e = omega (arith, ints, int_max_is a b)
    by false e = omega (arith, ints, int_max_is a b)

pub max_near : (k : ℕ) (a b : ℤ) → nat_abs a ≤ k → nat_abs b ≤ k → nat_abs (int_max a b) ≤ k
max_near k a b h l = rw (← max_is a b) (greater_near k a b h l)

top_least : (xs : List Edge) → pos 0 ≤ℤ top_weight xs
unfolding top_weight
top_least [] = omega (arith, ints)
top_least (x ∷ xs) = rw (max_is (top_weight xs) x.weight) (omega (arith, ints, int_max_is (top_weight xs) x.weight, top_least xs))

pub top_start : (xs : List Edge) → int_max (top_weight xs) (pos 0) ≡ top_weight xs
top_start xs = omega (arith, ints, int_max_is (top_weight xs) (pos 0), top_least xs)

top_next : (xs : List Edge) (i : ℕ) → i < length (weights_of xs)
    → int_max (top_weight (drop (suc i) xs)) (get_or (weights_of xs) i (pos 0)) ≡ top_weight (drop i xs)
unfolding top_weight weights_of
top_next [] i h = absurd (omega (arith, h))
top_next (x ∷ xs) zero h = sym (max_is (top_weight xs) x.weight)
top_next (x ∷ xs) (suc i) h = top_next xs i (omega (arith, h))

max_turn : (a b c : ℤ) → int_max (int_max a b) c ≡ int_max a (int_max c b)
max_turn a b c = omega (arith, ints, int_max_is (int_max a b) c, int_max_is a b, int_max_is a (int_max c b), int_max_is c b)

-- with the largest so far, the weights from entry i on have the largest of all
module _ (xs : List Edge) (i : ℕ) (top : ℤ) (whole : int_max (top_weight (drop i xs)) top ≡ top_weight xs) where
  pub top_step : (weights : List ℤ) → weights_of xs ≡ weights → i < length weights
      → int_max (top_weight (drop (i + 1) xs)) (int_max top (get_or weights i (pos 0))) ≡ top_weight xs
  top_step weights w h =
      rw (add-one i, ← w)
      (sym (max_turn (top_weight (drop (suc i) xs)) (get_or (weights_of xs) i (pos 0)) top)
      ∙ ap (λ (z : ℤ). int_max z top) (top_next xs i (rw w h))
      ∙ whole)

  pub top_end : length xs ≤ i → pos 0 ≤ℤ top → top ≡ top_weight xs
  unfolding top_weight
  top_end h l =
      let all : int_max (pos 0) top ≡ top_weight xs = ap (λ (l : List Edge). int_max (top_weight l) top) (sym (drop_of_length-le xs h)) ∙ whole in
      omega (arith, ints, int_max_is (pos 0) top, l, all)
