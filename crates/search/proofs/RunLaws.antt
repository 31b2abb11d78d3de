-- A run, one step at a time.
use Rattle.std.proofs.Common.{◌≡◌, ◌≢◌, ◌+◌, ℕ, zero, suc, Bool, true, false, refl, ap, add-one, Result, Ok, Err, is_ok, MatchResult}
use Rattle.laws.specs.Run.{ok, fault}
use Rattle.matching.specs.Graph.{Graph, is_group}
use Rattle.steps.specs.State.{State}
use Rattle.steps.specs.Steps.{step}
use Rattle.numbers.specs.declared.faults.Fault.{Fault}
use Rattle.search.specs.declared.running.Stopped.{Stopped}
use Rattle.search.specs.Searched.{Searched}
use Rattle.steps.specs.Plan.{finished, spent, broken, is_ended, run_by}

module _ (G : Graph) (flag : Bool) where
  pub run_ends : (left count : ℕ) (s : State) → is_ended s.progress.phase ≡ true → run_by is_group G flag left count s ≡ finished count s
  unfolding run_by
  run_ends zero count s e = rw e
  run_ends (suc left) count s e = rw e

  pub run_spends : (left count : ℕ) (s : State) → is_ended s.progress.phase ≡ false → left ≡ 0 → run_by is_group G flag left count s ≡ spent count
  unfolding run_by
  run_spends left count s e z = rw (z, e)

  pub run_steps : (left left' count : ℕ) (s s' : State) → left ≡ left' + 1 → is_ended s.progress.phase ≡ false → step is_group G flag s ≡ ok s'
      → run_by is_group G flag left' (count + 1) s' ≡ run_by is_group G flag left count s
  unfolding run_by
  run_steps left left' count s s' n e t = rw (n, add-one, add-one, e, t)

  pub run_breaks : (left count : ℕ) (s : State) → is_ended s.progress.phase ≡ false → left ≢ 0 → step is_group G flag s ≡ fault
      → run_by is_group G flag left count s ≡ broken count
  unfolding run_by
  run_breaks zero count s e n t = absurd (n refl)
  run_breaks (suc left) count s e n t = rw (e, t)

-- a step whose fault is told as another error
pub stepped : (P : Fault → Type 0) (r : Result Searched Fault) (q : Result Searched Stopped) (s : Searched) → MatchResult r (λ x. q ≡ Ok x) P
    → is_ok q ≡ is_ok r → q ≡ Ok s → r ≡ Ok s
stepped P (Ok x) q s m v e = let same : x ≡ s = cc in ap Ok same
stepped P (Err f) q s m v e = cc

pub ruleset run_turns = (run_ends, run_spends, run_steps, run_breaks)
