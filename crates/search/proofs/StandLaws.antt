-- What a step or a run leaves stands: by the theorem on the definition's steps, of which the code's are the same.
use mathlib.Core.Path.{◌≡◌, subst}
use Prim.Native.Nat.{ℕ, suc, ◌+◌}
use native.Mathlib.Numerals.{add-one}
use mathlib.Core.Bool.{Bool}
use Rattle.std.specs.Prelude.{Result, Ok, Err}
use Rattle.std.specs.Result.{IfOk}
use Rattle.matching.specs.Graph.{Graph, is_group}
use Rattle.steps.specs.State.{State, start}
use Rattle.steps.specs.Steps.{step}
use Rattle.steps.specs.Plan.{finished, run_by}
use Rattle.steps.specs.Standing.{After, next}
use Rattle.steps.proofs.Steady.{steps_stand, end_passed}
use Rattle.numbers.specs.declared.faults.Fault.{Fault}
use Rattle.search.specs.Searched.{Searched, searched, AnswersSearch, Ends, Numbered, Stands}
use Rattle.search.specs.declared.running.Stopped.{Stopped}

module _ (G : Graph) (sized : Numbered G) (flag : Bool) where
  -- a step after k completed ones
  pub step_stands : (s : State) (r : Result Searched Fault) → AnswersSearch (step is_group G flag s) r → (k : ℕ) → After is_group G flag k s
      → IfOk r (Stands G flag (k + 1))
  step_stands s (Ok t) e k a = rw add-one (record { after = next a e; standing = steps_stand G sized.0 sized.1 is_group flag (suc k) (searched t) (next a e) })
  step_stands s (Err f) e k a = tt

  -- a run from the fresh start
  pub run_stands : (budget : ℕ) (s : State) (r : Result (Searched × ℕ) Stopped) → Ends (run_by is_group G flag budget 0 s) r → s ≡ start G
      → IfOk r (λ r. Stands G flag r.1 r.0)
  run_stands budget s (Ok r) e q =
      let a = end_passed G sized.0 sized.1 is_group flag budget r.1 (searched r.0) (subst (λ s. run_by is_group G flag budget 0 s ≡ finished r.1
      (searched r.0)) q e) in
      record { after = a; standing = steps_stand G sized.0 sized.1 is_group flag r.1 (searched r.0) a }
  run_stands budget s (Err k) e q = tt
