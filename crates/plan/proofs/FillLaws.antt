-- Lent lists that were cleared: they stay so but for DONE, which fills the first n, 2n and 2n entries.
use mathlib.Core.Path.{◌≡◌}
use mathlib.Core.List.{List, ◌++◌}
use Prim.Native.Nat.{ℕ, ◌*◌}
use lib.IntN.{ℤ, pos}
use lib.ListN.{length, drop}
use Rattle.matching.specs.Graph.{missing}
use Rattle.matching.specs.Certificate.{Certificate}
use Rattle.std.specs.Prelude.{Err}
use Rattle.steps.specs.Plan.{cleared, filled}
use Rattle.certificate.specs.Lists.{room}
use Rattle.plan.specs.Lists.{Cleared}
use Rattle.plan.specs.View.{plan_of}
use Rattle.plan.specs.Runs.{settled, stopped_answer}
use Rattle.plan.specs.declared.answers.Answer.{Answer}
use Rattle.plan.specs.declared.answers.Answer.TheVariants.{Done}
use Rattle.search.specs.declared.running.Stopped.{Stopped}
use Rattle.search.specs.declared.running.Stopped.TheVariants.{Spent, Broken}
use Rattle.plan.proofs.PartLaws.{rest}

module _ (n : ℕ) (mates : List ℕ) (duals : List ℤ) (parents : List ℕ) (z : Cleared n mates duals parents) where
  pub stopped_cleared : (s : Stopped) (a : Answer) (C : Certificate) → a ≡ stopped_answer s
      → plan_of a mates duals parents ≡ settled n (room (length mates) (length duals) (length parents)) (Err s) C
  unfolding cleared
  stopped_cleared (Spent k) a C e = rw e (rw (← z.no_mates, ← z.no_duals, ← z.no_parents))
  stopped_cleared (Broken k) a C e = rw e (rw (← z.no_mates, ← z.no_duals, ← z.no_parents))

  pub done_filled : (k i : ℕ) (C : Certificate) (m p : List ℕ) (d : List ℤ) → i ≡ n
      → m ≡ C.mates ++ drop i mates → d ≡ C.duals ++ drop (2 * i) duals → p ≡ C.parents ++ drop (2 * i) parents
      → plan_of (Done k) m d p ≡ filled n (room (length mates) (length duals) (length parents)) k C
  unfolding filled
  done_filled k i C m p d q x y w =
      rw (
        x,
        y,
        w,
        q,
        rest n mates missing z.no_mates z.mates_fit,
        rest (2 * n) duals (pos 0) z.no_duals z.duals_fit,
        rest (2 * n) parents missing z.no_parents z.parents_fit,
      )
