-- How long the lists of the search are. Definitions only.
use Rattle.std.specs.Prelude.{◌≡◌, Bool, List, ℕ, ℤ, ◌*◌, length}
use Rattle.numbers.specs.Near.{Near}

pub record TreesFit (n : ℕ) (tops parents bases : List ℕ) (children ring_ends : List (List ℕ)) (room : ℕ) : Type 0 where
  pub in_tops : length tops ≡ n
  pub in_parents : length parents ≡ 2 * n
  pub in_bases : length bases ≡ 2 * n
  pub in_children : length children ≡ 2 * n
  pub in_ring_ends : length ring_ends ≡ 2 * n
  pub in_free : room ≡ n

pub record LabelsFit (n m : ℕ) (labels label_ends best : List ℕ) (best_lists : List (List ℕ)) (allowed : List Bool) (room : ℕ) : Type 0 where
  pub in_labels : length labels ≡ 2 * n
  pub in_label_ends : length label_ends ≡ 2 * n
  pub in_best : length best ≡ 2 * n
  pub in_best_lists : length best_lists ≡ 2 * n
  pub in_allowed : length allowed ≡ m
  pub in_queue : room ≡ 2 * n

-- a dual is within 2^52 of zero
pub record PairsFit (n : ℕ) (mates : List ℕ) (duals : List ℤ) : Type 0 where
  pub in_mates : length mates ≡ n
  pub in_duals : length duals ≡ 2 * n
  pub near : Near 4503599627370496 duals
