use Rattle.std.proofs.Common.{rules, ◌≢◌, ◌*◌, ◌-◌, refl, arith}
use Rattle.std.proofs.lemmas.Grind.{common_steps}
use Rattle.steps.specs.State.{Progress}
use Rattle.expand.proofs.WalkLaws.{onward_lost, onward_on}
use Rattle.expand.proofs.walk.onward.Goals as goal

pub loop-preserved : goal.loop-preserved
loop-preserved c =
    let n : c.in_ok-read.field-0 ≢ c.args.entry = grind (arith, common_steps) in
    let turn = λ (at : Progress).
    onward_on _ _ _ c.args.ring.now.forward _ _ _ _ c.in_ok-kids.ensures.said _ c.in_ok-read.ensures.said (2 * c.args.g.now.nodes) c.loop.counter _ refl
    (omega arith) n (rw c.of-c.ensures at (c.in_ok-onward_child.ensures.said at)) in
    search (rules, turn)

pub returns-in_err-onward_child-clause-said : goal.returns-in_err-onward_child-clause-said
returns-in_err-onward_child-clause-said c =
    let n : c.in_ok-read.field-0 ≢ c.args.entry = grind (arith, common_steps) in
    let turn = λ (at : Progress).
    onward_lost _ _ _ c.args.ring.now.forward (2 * c.args.g.now.nodes - c.loop.counter) _ _ _ c.in_ok-kids.ensures.said _ c.in_ok-read.ensures.said n
    (rw c.of-c.ensures at (c.in_err-onward_child.ensures.said at)) in
    search (rules, turn)
