-- What taking the last entry of a list answers. Definitions only.
use Rattle.std.specs.Prelude.{◌≡◌, Bool, true, false, List, [], ◌∷◌, ℕ, Result, Ok, Err}
use Rattle.laws.specs.Run.{Run, ok, fault, Popped}
use Rattle.numbers.specs.declared.faults.Fault.{Fault}

abbrev pub is_nil : List ℕ → Bool
is_nil [] = true
is_nil (x ∷ xs) = false

-- the last entry, and the list without it
abbrev pub Pops : Run Popped → Result ℕ Fault → (rest : List ℕ) → Type 0
Pops x (Ok v) rest = x ≡ ok (record { last = v; rest = rest })
Pops x (Err e) rest = x ≡ fault
