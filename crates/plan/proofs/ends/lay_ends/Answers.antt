use Rattle.std.proofs.Common.{refl, arith, length-set}
use Rattle.plan.proofs.EndLaws.{laid_more, laid_all}
use Rattle.plan.proofs.ends.lay_ends.Goals as goal

pub loop-e-init : goal.loop-e-init
loop-e-init c = (omega arith, refl, refl, λ w q. refl)

pub bounds-ends-e : goal.bounds-ends-e
bounds-ends-e c = omega (arith, c.requires.room, c.loop-e.invariant.2)

pub bounds-second-e : goal.bounds-second-e
bounds-second-e c = omega (arith, c.requires.seconds)

pub bounds-ends-e-in-loop-e : goal.bounds-ends-e-in-loop-e
bounds-ends-e-in-loop-e c = simp length-set (omega (arith, c.requires.room, c.loop-e.invariant.2))

pub loop-e-preserved : goal.loop-e-preserved
loop-e-preserved c =
    let a = c.args in let l = c.loop-e in (
      omega arith,
      refl,
      simp length-set l.invariant.2,
      λ w q. laid_more a.ends.now a.first.now a.second.now c.requires.seconds c.requires.room w q l.ends l.e (omega arith) (l.invariant.3 w q),
    )

pub returns : goal.returns
returns c =
    let a = c.args in
    let l = c.loop-e in
    λ w q. laid_all a.ends.now a.first.now a.second.now c.requires.seconds c.requires.room w q l.ends l.e (omega arith) (l.invariant.3 w q)
