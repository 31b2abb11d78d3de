use Rattle.std.proofs.Common.{arith, w64}
use mir.ValLaws.{to_z-of_z}
use Rattle.laws.proofs.Integers.{fits_near}
use Rattle.steps.specs.Adjust.{adjust_duals}
use Rattle.search.proofs.adjusting.adjust.Goals as goal

pub returns-clause-said : goal.returns-clause-said
unfolding adjust_duals
returns-clause-said c at =
    let k = c.in_ok-amount.field-0.amount in
    let plain = to_z-of_z w64 k (fits_near k (omega (arith, c.in_ok-amount.ensures.small))) in
    rw (c.in_ok-amount.ensures.said at) (rw plain at (c.follow.ensures.said at))
