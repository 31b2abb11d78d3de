use Rattle.std.proofs.Common.{rules}
use Rattle.steps.specs.Steps.{step, step_at, take_or_adjust}
use Rattle.std.specs.Prelude.{Ok}
use Rattle.search.proofs.StandLaws.{step_stands}
use Rattle.search.proofs.search.Search.step.Goals as goal

pub returns-in-Opening-clause-stands : goal.returns-in-Opening-clause-stands
unfolding step step_at
returns-in-Opening-clause-stands c = λ k z a. step_stands _ z _ _ _ (search rules) k a

pub returns-then-has_none_queued-clause-stands : goal.returns-then-has_none_queued-clause-stands
unfolding step step_at take_or_adjust
returns-then-has_none_queued-clause-stands c = λ k z a. step_stands _ z _ _ _ (search rules) k a

pub returns-else-has_none_queued-clause-stands : goal.returns-else-has_none_queued-clause-stands
unfolding step step_at take_or_adjust
returns-else-has_none_queued-clause-stands c = λ k z a. step_stands _ z _ _ _ (search rules) k a

pub returns-in-Closing-clause-stands : goal.returns-in-Closing-clause-stands
unfolding step step_at
returns-in-Closing-clause-stands c = λ k z a. step_stands _ z _ _ _ (search rules) k a

pub returns-in-Ended-clause-stands : goal.returns-in-Ended-clause-stands
unfolding step step_at
returns-in-Ended-clause-stands c = λ k z a. step_stands _ z _ _ (Ok c.args.self) (search rules) k a
