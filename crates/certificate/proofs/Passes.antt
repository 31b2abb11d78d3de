-- A test of each number up to an end, one number at a time.
use Rattle.std.proofs.Common.{◌≡◌, ◌+◌, ◌-◌, ◌<◌, ◌≤◌, ℕ, Bool, true, false, sym, refl}
use Rattle.laws.specs.Lists.{all, range, sum}
use Rattle.laws.proofs.Loops.{all_next, all_stop, all_end, range_more, range_none}

module _ (p : ℕ → Bool) (i end : ℕ) where
  pub pass_on : i < end → p i ≡ true → all p (range (i + 1) (end - (i + 1))) ≡ all p (range i (end - i))
  pass_on h e = all_next p i end h e refl

  pub pass_bad : i < end → p i ≡ false → all p (range i (end - i)) ≡ false
  pass_bad h e = sym (all_stop p i end h e refl)

  pub pass_out : end ≤ i → all p (range i (end - i)) ≡ true
  pass_out h = sym (all_end p i end h refl)

-- and a sum over them

module _ (f : ℕ → ℕ) (i end : ℕ) where
  pub sum_more : i < end → sum (range i (end - i)) f ≡ f i + sum (range (i + 1) (end - (i + 1))) f
  unfolding sum
  sum_more h = rw (range_more i end h)

  pub sum_none : end ≤ i → sum (range i (end - i)) f ≡ 0
  unfolding sum
  sum_none h = rw (range_none i end h)

pub ruleset sums = (sum_more, sum_none)

pub ruleset passes = (pass_on, pass_bad, pass_out)
