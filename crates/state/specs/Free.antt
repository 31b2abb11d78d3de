-- A number taken from the free ones: the last. Definitions only.
use Rattle.std.specs.Prelude.{◌≡◌, ℕ, Result, Ok, Err}
use Rattle.laws.specs.Run.{Run, ok, fault, ◌>>=◌, pop}
use Rattle.steps.specs.State.{State}
use Rattle.steps.specs.Stores.{with_free}
use Rattle.numbers.specs.declared.faults.Fault.{Fault}

-- the number, and the state without it
pub record Taken : Type 0 where
  pub new : ℕ
  pub state : State

unfoldable pub take_last : State → Run Taken
take_last s = pop s.forest.free >>= λ f. ok (record { new = f.last; state = with_free f.rest s })

abbrev pub Takes : Run Taken → Result ℕ Fault → State → Type 0
Takes x (Ok b) s = x ≡ ok (record { new = b; state = s })
Takes x (Err e) s = x ≡ fault
