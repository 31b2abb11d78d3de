-- What the plan call leaves in C's hands: three numbers and the lent lists over their whole length. Definitions only.
use Rattle.std.specs.Prelude.{◌≡◌, List, ℕ, ℤ}
use Rattle.steps.specs.Plan.{Plan, answer_number, answer_place}

pub record Planned (p : Plan) (number place steps : ℕ) (mates : List ℕ) (duals : List ℤ) (parents : List ℕ) : Type 0 where
  pub numbered : number ≡ answer_number p.answer
  pub placed : place ≡ answer_place p.answer
  pub counted : steps ≡ p.steps
  pub mated : mates ≡ p.mates
  pub weighed : duals ≡ p.duals
  pub held : parents ≡ p.parents
