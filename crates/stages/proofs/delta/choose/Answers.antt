use Rattle.std.proofs.Common.{arith, w64}
use mir.ValLaws.{to_z-of_z}
use Rattle.laws.proofs.Integers.{fits_near}
use Rattle.steps.specs.Adjust.{choose_delta}
use Rattle.stages.proofs.delta.choose.Goals as goal

pub returns-clause-said : goal.returns-clause-said
unfolding choose_delta
returns-clause-said c at =
    let k = c.in_ok-amount.field-0.amount in
    let plain = to_z-of_z w64 k (fits_near k (omega (arith, c.in_ok-amount.ensures.small))) in
    rw (plain, c.in_ok-one.ensures.said at, c.in_ok-two.ensures.said at, c.in_ok-three.ensures.said at, c.in_ok-four.ensures.said at)
    (c.in_ok-amount.ensures.said at)
