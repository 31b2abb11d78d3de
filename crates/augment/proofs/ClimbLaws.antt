-- The climb by the parents: its test and its move by what is read.
use Rattle.std.proofs.Common.{◌≡◌, ◌≢◌, ℕ, List, true, false, refl}
use borrow.Author.Tests.{eq-eqb, ne_eqb}
use Rattle.laws.specs.Run.{ok, fault, at}
use Rattle.laws.proofs.Runs.{while_stop, while_spent, while_broken, while_torn}
use Rattle.steps.specs.Augment.{climb_goes, climb_move}
use Rattle.steps.specs.Ends.{present}
use Rattle.state.proofs.Passes.{while_next}

module _ (parents : List ℕ) (b t : ℕ) where
  pub climb_torn : at parents t ≡ fault → climb_goes parents b t ≡ fault
  unfolding climb_goes
  climb_torn e = rw e

  pub climb_on : (p : ℕ) → at parents t ≡ ok p → p ≢ b → climb_goes parents b t ≡ ok true
  unfolding climb_goes
  climb_on p e n = rw (e, ne_eqb p b n)

  pub climb_over : (p : ℕ) → at parents t ≡ ok p → p ≡ b → climb_goes parents b t ≡ ok false
  unfolding climb_goes
  climb_over p e h = rw (e, h, eq-eqb b b refl)

pub climb_move_is : (parents : List ℕ) (t p : ℕ) → at parents t ≡ ok p → climb_move parents t ≡ present p
unfolding climb_move
climb_move_is parents t p e = rw e

pub ruleset climbs = (climb_torn, climb_on, climb_over, climb_move_is, while_next, while_stop, while_spent, while_broken, while_torn)
