use Rattle.std.proofs.Common.{◌≡◌, ◌-◌, arith}
use Rattle.certificate.proofs.ListLaws.{climb_stop, climb_more, climb_last}
use Rattle.certificate.proofs.nodes.climb_ends.Goals as goal

pub loop-k-init : goal.loop-k-init
loop-k-init c = (c.requires.2, omega arith, let e : c.args.n - 0 ≡ c.args.n = omega arith in rw e)

pub overflow_cast-p : goal.overflow_cast-p
overflow_cast-p c = omega (arith, c.requires.0)

pub offset_bounds-parents-at : goal.offset_bounds-parents-at
offset_bounds-parents-at c = omega (arith, c.requires.0)

pub bounds-parents-at : goal.bounds-parents-at
bounds-parents-at c = omega (arith, c.requires.1.as_many)

pub returns-then-p : goal.returns-then-p
returns-then-p c =
    climb_stop _ _ c.requires.1.as_many c.loop-k.at c.loop-k.invariant.0 _ c.if-p.true c.loop-k.invariant.2

pub overflow_step-k : goal.overflow_step-k
overflow_step-k c = omega (arith, c.requires.0)

pub loop-k-smaller : goal.loop-k-smaller
loop-k-smaller c = omega arith

pub loop-k-preserved : goal.loop-k-preserved
loop-k-preserved c = (
  (c.requires.1.is_group c.loop-k.at c.loop-k.invariant.0 c.if-p.false).1,
  omega arith,
  climb_more _ _ c.requires.1.as_many c.loop-k.at
      c.loop-k.invariant.0 c.loop-k.k c.loop-k-test.true c.if-p.false c.loop-k.invariant.2,
)

pub overflow_cast-result : goal.overflow_cast-result
overflow_cast-result c = omega (arith, c.requires.0)

pub offset_bounds-parents-at-2 : goal.offset_bounds-parents-at-2
offset_bounds-parents-at-2 c = omega (arith, c.requires.0)

pub bounds-parents-at-2 : goal.bounds-parents-at-2
bounds-parents-at-2 c = omega (arith, c.requires.1.as_many)

pub returns : goal.returns
returns c =
    climb_last _ _ c.requires.1.as_many c.loop-k.at c.loop-k.invariant.0 _ (omega arith) c.loop-k.invariant.2
