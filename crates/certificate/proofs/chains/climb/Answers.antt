use Rattle.std.proofs.Common.{arith}
use Rattle.certificate.proofs.TableLaws.{rising_start, rising_few, rising_next, rising_end}
use Rattle.certificate.proofs.chains.climb.Goals as goal

pub loop-p-init : goal.loop-p-init
loop-p-init c =
    rw (c.number.ensures, c.number-2.ensures) (rising_start c.args.n _ _ c.args.v c.requires.climbing c.requires.node c.requires.room)

pub bounds-pool-row : goal.bounds-pool-row
bounds-pool-row c =
    omega (arith, rising_few _ _ _ _ _ _ _ _ c.requires.climbing.named c.loop-p.invariant c.loop-p-test.true)

pub loop-p-smaller : goal.loop-p-smaller
loop-p-smaller c =
    omega (arith, rising_few _ _ _ _ _ _ _ _ c.requires.climbing.named c.loop-p.invariant c.loop-p-test.true)

pub loop-p-preserved : goal.loop-p-preserved
loop-p-preserved c = rising_next _ _ _ _ _ _ _ _ c.requires.climbing.named c.loop-p.invariant c.loop-p-test.true

pub returns : goal.returns
returns c =
    rising_end c.args.n _ _ c.args.v c.requires.climbing c.requires.node c.requires.room _ _ _
    (rw (c.number.ensures, c.number-2.ensures) at c.loop-p.invariant) c.loop-p-test.false
