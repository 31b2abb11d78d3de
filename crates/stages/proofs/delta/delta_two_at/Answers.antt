use Rattle.std.proofs.Common.{◌≡◌, sym, ◌∙◌, false}
use Rattle.matching.specs.Graph.{is_missing}
use Rattle.steps.specs.Adjust.{delta2_at}
use Rattle.stages.proofs.delta.delta_two_at.Goals as goal

pub returns-then-not-is_missing-clause-said : goal.returns-then-not-is_missing-clause-said
unfolding delta2_at
returns-then-not-is_missing-clause-said c at =
    let there : is_missing c.in_ok-e.e ≡ false = sym c.is_missing.ensures ∙ c.if-not-is_missing.true in
    let label = rw c.number.ensures at c.in_ok-l.ensures.said in
    let best = rw c.number-2.ensures at c.in_ok-e.ensures in
    rw (c.in_ok-t.ensures.said, label, c.if-l-eq0.true, best, there) (c.offer_two.ensures.said at)
