-- THE TABLE P1 to P13, in one claim: each call gives the result that its row tells, every field of it.
use mathlib.Core.Path.{◌≡◌, refl}
use Rattle.steps.specs.Table.{table, results, expected}
use Rattle.steps.proofs.Computed.{computed, holds}

by_computing : computed table ≡ expected table
unfolding computed
by_computing = refl

pub table_holds : results table ≡ expected table
table_holds = holds table by_computing
