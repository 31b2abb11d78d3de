-- The turning of a ring: the first child after it, the walk round by its passes, and a group one level down.
use Rattle.std.proofs.Common.{◌≡◌, ◌≢◌, ◌-◌, ◌<◌, ◌≤◌, ℕ, zero, suc, List, true, false}
use Rattle.std.proofs.Common.{length, drop-cons, refl, arith}
use borrow.Author.Tests.{ne_eqb}
use Rattle.std.proofs.lemmas.List.{take_all}
use Rattle.std.proofs.Math.ListN.{drop_of_length-le}
use Rattle.laws.specs.Run.{ok, fault, at}
use Rattle.laws.proofs.Windows.{at_in}
use Rattle.laws.proofs.Runs.{while_stop, while_spent, while_broken}
use Rattle.matching.specs.Graph.{Graph, is_group}
use Rattle.steps.specs.Augment.{turning_goes, turn_group, augment_group}
use Rattle.steps.specs.Ring.{rotate}
use Rattle.steps.specs.State.{State}
use Rattle.augment.specs.Turns.{at_place, below}
use Rattle.state.proofs.Passes.{while_next}

-- ---- the first child of a ring with place i first

pub first_turned : (xs : List ℕ) (i : ℕ) → i < length xs → at (rotate i xs) 0 ≡ at xs i
unfolding rotate at
first_turned xs i h = rw (drop-cons xs i 0 h, at_in xs i 0 h)

pub first_kept : (xs : List ℕ) (i : ℕ) → length xs ≤ i → at (rotate i xs) 0 ≡ at xs 0
unfolding rotate at
first_kept xs i h = rw (drop_of_length-le xs h, take_all i xs h)

pub ruleset firsts = (first_turned, first_kept)

-- ---- the walk round

pub ring_on : (place : ℕ) (s : State) → place ≢ 0 → turning_goes (at_place place s) ≡ ok true
unfolding turning_goes
ring_on place s n = rw (ne_eqb place 0 n)

pub ring_over : (place : ℕ) (s : State) → place ≡ 0 → turning_goes (at_place place s) ≡ ok false
unfolding turning_goes
ring_over place s z = rw z

pub ruleset ring_turns = (ring_on, ring_over, while_next, while_stop, while_spent, while_broken)

-- ---- a group one level down

pub level_below : (G : Graph) (depth b v : ℕ) (s : State) → depth ≢ 0
    → augment_group is_group G depth b v s ≡ turn_group is_group G (below G (depth - 1)) b v s
unfolding augment_group
level_below G zero b v s n = absurd (n refl)
level_below G (suc d) b v s n = let e : suc d - 1 ≡ d = omega arith in rw e

pub level_none : (G : Graph) (depth b v : ℕ) (s : State) → depth ≡ 0 → augment_group is_group G depth b v s ≡ fault
unfolding augment_group
level_none G depth b v s e = rw e

pub ruleset levels = (level_below, level_none)
