-- The plan reads the end of a run only through its outcome: the steps, and the certificate of the last state.
use mathlib.Core.Path.{◌≡◌, refl, sym, ap, ◌∙◌}
use mathlib.Core.Bool.{Bool}
use Prim.Native.Nat.{ℕ}
use Rattle.std.specs.Prelude.{Ok, Err}
use Rattle.matching.specs.Graph.{Graph}
use Rattle.matching.specs.Certificate.{Certificate, Condition}
use Rattle.matching.specs.Tests.{Verdict, YES, NO, verdict}
use Rattle.steps.specs.Refusals.{Room}
use Rattle.steps.specs.Plan.{STEPS, FAULT, Ending, finished, spent, broken, Plan, cleared, filled, certified as certified_by, plan_end}
use Rattle.search.specs.declared.running.Stopped.{Stopped}
use Rattle.search.specs.declared.running.Stopped.TheVariants.{Spent, Broken}
use Rattle.plan.specs.Runs.{Outcome, certified, stopped, faulted, outcome_of, Certifies, settled}

module _ (G : Graph) (flag : Bool) (room : Room) where
  plan_by : Outcome → Plan
  plan_by (certified k C) = certified_by G.nodes room k C (verdict G flag C)
  plan_by (stopped k) = cleared room STEPS k
  plan_by (faulted k) = cleared room FAULT k

  module _ (e : Ending) where
    by_outcome : (o : Outcome) → outcome_of e ≡ o → plan_by o ≡ plan_end G flag room e
    unfolding plan_end plan_by
    by_outcome o h = rw (← h) (go e)
      where
        go : (e : Ending) → plan_by (outcome_of e) ≡ plan_end G flag room e
        go (finished k s) = refl
        go (spent k) = refl
        go (broken k) = refl

    -- a run that has stopped
    pub stops : (n : ℕ) (r : Stopped) (C D : Certificate) → Certifies (outcome_of e) (Err r) C → settled n room (Err r) D ≡ plan_end G flag room e
    unfolding plan_by
    stops n (Spent k) C D h = by_outcome (stopped k) h
    stops n (Broken k) C D h = by_outcome (faulted k) h

    module _ (k : ℕ) (C : Certificate) (h : outcome_of e ≡ certified k C) where
      pub passes : YES ≡ verdict G flag C → settled G.nodes room (Ok k) C ≡ plan_end G flag room e
      unfolding certified_by plan_by
      passes j = go (verdict G flag C) j ∙ by_outcome (certified k C) h
        where
          go : (v : Verdict) → YES ≡ v → filled G.nodes room k C ≡ certified_by G.nodes room k C v
          go YES j = refl
          go (NO c) j = cc

      pub fails : (c : Condition) → NO c ≡ verdict G flag C → settled G.nodes room (Err (Broken k)) C ≡ plan_end G flag room e
      unfolding certified_by plan_by
      fails c j = go (verdict G flag C) j ∙ by_outcome (certified k C) h
        where
          go : (v : Verdict) → NO c ≡ v → cleared room FAULT k ≡ certified_by G.nodes room k C v
          go YES j = cc
          go (NO d) j = refl
