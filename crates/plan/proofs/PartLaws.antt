-- What is left of a cleared list, and what the refusals have shown of the graph.
use mathlib.Core.Path.{◌≡◌, ap, ◌∙◌}
use mathlib.Core.Bool.{Bool, true, false, not}
use mathlib.Core.List.{List}
use Prim.Native.Nat.{ℕ, ◌+◌, ◌*◌, ◌-◌, ◌<◌, ◌≤◌}
use native.Mathlib.Omega.{arith}
use lib.Dec.{T, ltb, ltb→lt, nltb→le}
use lib.IntN.{ℤ, pos, nat_abs}
use lib.ListN.{length, get_or, drop, replicate, get_or-eq_default}
use Rattle.laws.proofs.Windows.{drop_replicate}
use Rattle.numbers.specs.Near.{Near}
use Rattle.edges.specs.Neighbours.{Neighbours}
use Rattle.edges.specs.Views.{GraphFits}
use Rattle.certificate.specs.Lists.{Known, Weighed}

module _ {A : Type 0} where
  -- what is left of a list that holds one entry throughout
  pub rest : (k : ℕ) (l : List A) (v : A) → l ≡ replicate (length l) v → k ≤ length l → drop k l ≡ replicate (length l - k) v
  rest k l v e h =
      let m : length l ≡ k + (length l - k) = omega arith in
      ap (drop k) (e ∙ ap (λ (i : ℕ). replicate i v) m) ∙ drop_replicate k (length l - k) v

-- ---- the table

near : (first : List ℕ) (weight : List ℤ) → Weighed first weight → Near 1000000000 weight
near first weight w = record { near = λ i. go i (ltb i (length first)) (ltb→lt i (length first)) (nltb→le i (length first)) }
  where
    go : (i : ℕ) (t : Bool) → (T t → i < length first) → (T (not t) → length first ≤ i) → nat_abs (get_or weight i (pos 0)) ≤ 1000000000
    go i true f g = w.near_zero i (f tt)
    go i false f g = rw (get_or-eq_default weight (pos 0) {n = i} (omega (arith, g tt, w.weights))) (omega arith)
