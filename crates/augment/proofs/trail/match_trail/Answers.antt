use Rattle.std.proofs.Common.{rules, ◌∙◌, ◌*◌, refl, arith}
use Rattle.steps.specs.Augment.{match_trail}
use Rattle.state.specs.Parts.{state_of}
use Rattle.augment.proofs.TrailLaws.{trail_over, trail_goes_on}
use Rattle.augment.proofs.trail.match_trail.Goals as goal

pub returns-in-None-clause-said : goal.returns-in-None-clause-said
unfolding match_trail
returns-in-None-clause-said c at =
    let s = state_of c.loop.lists at in
    let s' = state_of c.trail_move.new.lists at in
    let l = c.loop-test.true in
    let n = 2 * c.args.g.now.nodes in
    let e = trail_over c.args.g.now n c.loop.counter c.loop.here s s' c.in_ok-next.field-0 (c.in_ok-next.ensures.said at) (omega (arith, l)) c.in-None.is in
    rw (← c.loop.invariant.rest at, e) refl

pub loop-preserved : goal.loop-preserved
loop-preserved c =
    let l = c.loop-test.true in
    let n = 2 * c.args.g.now.nodes in
    record {
      rest = λ at.
          let s = state_of c.loop.lists at in
          let s' = state_of c.trail_move.new.lists at in
          let m = c.in_ok-next.ensures.said at in
          trail_goes_on c.args.g.now n c.loop.counter c.loop.here s s' c.in_ok-next.field-0 m (omega (arith, l)) c.in-Some.next c.in-Some.is
          ∙ c.loop.invariant.rest at;
      size = c.in_ok-next.ensures.size ∙ c.loop.invariant.size;
      others = search rules;
    }
