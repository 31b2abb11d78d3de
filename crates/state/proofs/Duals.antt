-- A dual that was read is near to zero, and one that is stored leaves the others as they were.
use Rattle.std.proofs.Common.{List, ℕ, ℤ, ◌≤◌, nat_abs, set, length-set, Result, Ok, Err}
use Rattle.std.specs.Result.{IfOk}
use Rattle.laws.specs.Run.{at}
use Rattle.numbers.specs.Near.{Near}
use Rattle.numbers.specs.Answers.{Answers}
use Rattle.numbers.specs.declared.faults.Fault.{Fault}
use Rattle.numbers.proofs.NearLaws.{at_near, set_near}
use Rattle.state.specs.Views.{PairsFit}

pub dual_near : (k : ℕ) (l : List ℤ) (i : ℕ) (r : Result ℤ Fault) → Near k l → Answers (at l i) r → IfOk r (λ d. nat_abs d ≤ k)
dual_near k l i (Ok d) h e = at_near k l i d h e
dual_near k l i (Err f) h e = tt

pub dual_stored : (n i : ℕ) (d : ℤ) (mates : List ℕ) (duals : List ℤ) → PairsFit n mates duals → nat_abs d ≤ 4503599627370496
    → PairsFit n mates (set duals i d)
dual_stored n i d mates duals f h =
    record { in_mates = f.in_mates; in_duals = simp length-set f.in_duals; near = set_near 4503599627370496 duals i d f.near h }
