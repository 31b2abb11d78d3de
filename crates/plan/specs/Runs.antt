-- How a run ended, as the plan reads it: of the last state only the certificate. Definitions only.
use Rattle.std.specs.Prelude.{◌≡◌, ℕ, Result, Ok, Err}
use Rattle.matching.specs.Certificate.{Certificate}
use Rattle.steps.specs.Refusals.{Room}
use Rattle.steps.specs.Plan.{STEPS, FAULT, Plan, cleared, filled, Ending, finished, spent, broken, certificate_of}
use Rattle.search.specs.declared.running.Stopped.{Stopped}
use Rattle.search.specs.declared.running.Stopped.TheVariants.{Spent, Broken}
use Rattle.plan.specs.declared.answers.Answer as answer
use Rattle.plan.specs.declared.answers.Answer.TheVariants as answers

-- a certificate for so many nodes
pub record Certified : Type 0 where
  pub nodes : ℕ
  pub certificate : Certificate

pub data Outcome : Type 0 where
  certified : (steps : ℕ) → Certificate → Outcome
  stopped faulted : (steps : ℕ) → Outcome

abbrev pub outcome_of : Ending → Outcome
outcome_of (finished k s) = certified k (certificate_of s)
outcome_of (spent k) = stopped k
outcome_of (broken k) = faulted k

-- the run answers the steps, and leaves its certificate where it has ended
abbrev pub Certifies : Outcome → Result ℕ Stopped → Certificate → Type 0
Certifies x (Ok k) C = x ≡ certified k C
Certifies x (Err (Spent k)) C = x ≡ stopped k
Certifies x (Err (Broken k)) C = x ≡ faulted k

-- an answer with the certificate found, which is read only where it is Ok
abbrev pub settled : (n : ℕ) → Room → Result ℕ Stopped → Certificate → Plan
settled n room (Ok k) C = filled n room k C
settled n room (Err (Spent k)) C = cleared room STEPS k
settled n room (Err (Broken k)) C = cleared room FAULT k

-- how a call ends whose run has stopped
abbrev pub stopped_answer : Stopped → answer.Answer
stopped_answer (Spent k) = answers.Steps k
stopped_answer (Broken k) = answers.Fault k
