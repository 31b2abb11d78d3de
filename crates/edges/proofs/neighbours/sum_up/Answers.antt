use Rattle.std.proofs.Common.{refl, ◌≡◌, ◌+◌, arith}
use Rattle.edges.specs.Neighbours.{sum_to}
use Rattle.edges.proofs.Counts.{summing_none, sum_next, summing_more, summing_end, sum_mono}
use Rattle.edges.proofs.neighbours.sum_up.Goals as goal

pub loop-v-init : goal.loop-v-init
unfolding sum_to
loop-v-init c = (refl, summing_none c.args.offsets.now)

pub overflow_add-total : goal.overflow_add-total
overflow_add-total c =
    let all = c.args.offsets.now in let l = c.loop-v in
    let next = sum_next all l.offsets l.v l.total l.invariant.1 l.invariant.0 in
    omega (arith, next, sum_mono all (l.v + 1) c.args.n (omega (arith, c.loop-v-test.true)), c.requires)

pub loop-v-preserved : goal.loop-v-preserved
loop-v-preserved c =
    let all = c.args.offsets.now in let l = c.loop-v in (
      sum_next all l.offsets l.v l.total l.invariant.1 l.invariant.0,
      summing_more all l.offsets l.v l.total l.invariant.1 l.invariant.0 (omega (arith, c.loop-v-test.true, l.auto, c.requires)),
    )

pub returns : goal.returns
returns c =
    let all = c.args.offsets.now in let l = c.loop-v in
    let e : l.v ≡ c.args.n = omega (arith, c.loop-v-test.false, l.auto) in
    rw e at (summing_end all l.offsets l.v l.total l.invariant.1 l.invariant.0 (omega (arith, l.auto, c.requires)))
