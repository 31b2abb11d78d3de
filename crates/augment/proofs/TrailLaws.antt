-- The trail, one law for each answer of a move.
use Rattle.std.proofs.Common.{◌≡◌, ◌-◌, ◌+◌, ◌<◌, ℕ, true, false, Option, Some, None, Ok, refl, arith, ◌∙◌}
use Rattle.laws.specs.Run.{ok, while}
use Rattle.laws.proofs.Runs.{while_stop, while_spent, while_broken, while_pass}
use Rattle.matching.specs.Graph.{Graph, is_group}
use Rattle.steps.specs.Augment.{trail_goes, trail_move}
use Rattle.steps.specs.State.{State}
use Rattle.state.proofs.Passes.{while_next}
use Rattle.augment.specs.declared.trail.Place.{Place}
use Rattle.augment.specs.Trails.{Moves, on_trail}

pub trail_on : (v p : ℕ) (s : State) → trail_goes (on_trail v p false s) ≡ ok true
unfolding trail_goes
trail_on v p s = refl

ended : (v p : ℕ) (s : State) → trail_goes (on_trail v p true s) ≡ ok false
unfolding trail_goes
ended v p s = refl

-- pass i of n, from the place k
module _ (G : Graph) (n i : ℕ) (k : Place) (s s' : State) (next : Option Place)
    (m : Moves k (trail_move is_group G (on_trail k.v k.p false s)) (Ok next) s') (l : i < n) where
  pub trail_over : next ≡ None
      → while trail_goes (trail_move is_group G) (n - i) (on_trail k.v k.p false s) ≡ ok (on_trail k.v k.p true s')
  trail_over h =
      let e = rw h at m in
      while_pass trail_goes (trail_move is_group G) (n - i) _ (on_trail k.v k.p true s') (omega arith) (trail_on k.v k.p s) e
      ∙ while_stop trail_goes (trail_move is_group G) (n - i - 1) (on_trail k.v k.p true s') (ended k.v k.p s')

  pub trail_goes_on : (to : Place) → next ≡ Some to
      → while trail_goes (trail_move is_group G) (n - (i + 1)) (on_trail to.v to.p false s')
      ≡ while trail_goes (trail_move is_group G) (n - i) (on_trail k.v k.p false s)
  trail_goes_on to h =
      let e = rw h at m in
      while_next trail_goes (trail_move is_group G) n i _ (on_trail to.v to.p false s') l (trail_on k.v k.p s) e

pub ruleset trails = (trail_on, while_spent, while_broken)
