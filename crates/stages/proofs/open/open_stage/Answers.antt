use Rattle.std.proofs.Common.{sym, Result, Ok, Err}
use Rattle.std.specs.Bool.{⊤}
use Rattle.laws.specs.Run.{Run, ok, ◌>>=◌, for_range}
use Rattle.steps.specs.State.{State, Progress, searching}
use Rattle.steps.specs.Stores.{with_phase}
use Rattle.steps.specs.Steps.{root_at, open_stage}
use Rattle.numbers.specs.declared.faults.Fault.{Fault}
use Rattle.numbers.specs.Answers.{Agrees}
use Rattle.state.specs.Parts.{Parts, state_of}
use Rattle.stages.specs.Stage.{searching_at}
use Rattle.stages.proofs.open.open_stage.Goals as goal

-- the phase is set after the roots, whatever they answer
opened : (x : Run State) (r : Result ⊤ Fault) (s : Parts) (at : Progress) → Agrees x r (state_of s at)
    → Agrees (x >>= λ s. ok (with_phase searching s)) r (state_of s (searching_at at))
opened x (Ok u) s at a = rw a
opened x (Err e) s at a = rw a

pub returns-clause-said : goal.returns-clause-said
unfolding open_stage
returns-clause-said c at =
    let a = c.args in
    rw (sym (c.forget.ensures.said at))
    (opened (for_range (root_at a.g.now) 0 a.g.now.nodes (state_of c.forget.new.self at)) c.roots.result c.roots.new.lists at (c.roots.ensures.said at))
