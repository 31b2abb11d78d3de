-- What an edge between two label-1 groups does, by what the scan answers.
use Rattle.std.proofs.Common.{◌≡◌, ℕ, Option, Some, None, Ok, refl}
use Rattle.laws.specs.Run.{ok, fault}
use Rattle.matching.specs.Graph.{Graph, is_group}
use Rattle.numbers.specs.declared.Node.{Node}
use Rattle.steps.specs.Add.{add_group}
use Rattle.steps.specs.Augment.{augment_matching}
use Rattle.steps.specs.Scan.{scan}
use Rattle.steps.specs.State.{State, closing}
use Rattle.steps.specs.Steps.{join}
use Rattle.steps.specs.Stores.{with_phase}
use Rattle.state.specs.Walks.{AnswersBase}

module _ (G : Graph) (v w e : ℕ) (s : State) (r : Option Node) (m : AnswersBase (scan G v w s) (Ok r)) where
  pub join_adds : (b : Node) (s' : State) → r ≡ Some b → add_group G b e s ≡ ok s' → join is_group G v w e s ≡ ok s'
  unfolding join
  join_adds b s' h a = let k = rw h at m in rw (k.0, k.1, a) refl

  pub join_adds_not : (b : Node) → r ≡ Some b → add_group G b e s ≡ fault → join is_group G v w e s ≡ fault
  unfolding join
  join_adds_not b h a = let k = rw h at m in rw (k.0, k.1, a) refl

  pub join_augments : (s' : State) → r ≡ None → augment_matching is_group G e s ≡ ok s' → join is_group G v w e s ≡ ok (with_phase closing s')
  unfolding join
  join_augments s' h a = let k = rw h at m in rw (k, a) refl

  pub join_augments_not : r ≡ None → augment_matching is_group G e s ≡ fault → join is_group G v w e s ≡ fault
  unfolding join
  join_augments_not h a = let k = rw h at m in rw (k, a) refl
