-- The amount of a dual adjustment as the code has it. Definitions only.
use Rattle.std.specs.Prelude.{◌≡◌, ◌≤◌, Option, Some, None, Result, Ok, Err, ℤ, nat_abs}
use Rattle.laws.specs.Run.{Run, ok, fault}
use Rattle.numbers.specs.declared.faults.Fault.{Fault}
use Rattle.steps.specs.Adjust.{Delta as Amount, no_delta, type1, type2, type3, type4}
use Rattle.stages.specs.declared.delta.By.{By}
use Rattle.stages.specs.declared.delta.By.TheVariants.{One, Two, Three, Four}
use Rattle.stages.specs.declared.delta.Delta.{Delta}

-- an amount of this type
abbrev pub typed : By → ℤ → Amount
typed One d = type1 d
typed (Two e) d = type2 d e
typed (Three e) d = type3 d e
typed (Four b) d = type4 d b

abbrev pub amount_of : Delta → Amount
amount_of d = typed d.by d.amount

-- the least amount found so far
abbrev pub least_of : Option Delta → Amount
least_of (Some d) = amount_of d
least_of None = no_delta

-- the run x answers an amount; the least one found so far
abbrev pub AnswersDelta : Run Amount → Result Delta Fault → Type 0
AnswersDelta x (Ok d) = x ≡ ok (amount_of d)
AnswersDelta x (Err e) = x ≡ fault

abbrev pub AnswersLeast : Run Amount → Result (Option Delta) Fault → Type 0
AnswersLeast x (Ok d) = x ≡ ok (least_of d)
AnswersLeast x (Err e) = x ≡ fault

-- an amount that may be added to a dual
abbrev pub Small : Delta → Type 0
Small d = nat_abs d.amount ≤ 18014398509481984

abbrev pub SmallOr : Option Delta → Type 0
SmallOr (Some d) = Small d
SmallOr None = Unit {0}
