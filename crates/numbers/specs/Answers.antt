-- A definition's run beside the answer of a routine: Ok where the run is ok, Err where it faults. Definitions only.
use Rattle.std.specs.Prelude.{◌≡◌, ◌≤◌, List, ℕ, Result, Ok, Err, length}
use Rattle.std.specs.Borrow.{Bor}
use Rattle.laws.specs.Run.{Run, ok, fault}
use Rattle.numbers.specs.declared.faults.Fault.{Fault}

-- the run x answers r
abbrev pub Answers : {A : Type 0} → Run A → Result A Fault → Type 0
Answers x (Ok a) = x ≡ ok a
Answers x (Err e) = x ≡ fault

abbrev pub AnswersRow : Run (List ℕ) → Result (Bor (List ℕ)) Fault → Type 0
AnswersRow x (Ok r) = x ≡ ok r.now
AnswersRow x (Err e) = x ≡ fault

-- a row's places fit 16 bits
abbrev pub RowFits : Result (Bor (List ℕ)) Fault → Type 0
RowFits (Ok r) = length r.now ≤ 65535
RowFits (Err e) = Unit {0}

-- the run x agrees with the answer r of a routine that leaves a
abbrev pub Agrees : {A B : Type 0} → Run A → Result B Fault → A → Type 0
Agrees x (Ok b) a = x ≡ ok a
Agrees x (Err e) a = x ≡ fault

-- nothing changes where the answer is Err
abbrev pub Kept : {A B : Type 0} → Result B Fault → (old new : A) → Type 0
Kept (Ok b) old new = Unit {0}
Kept (Err e) old new = new ≡ old
