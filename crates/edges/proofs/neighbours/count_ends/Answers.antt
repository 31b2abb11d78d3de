use Rattle.std.proofs.Common.{arith, ◌+◌, ◌<◌, length, get_or}
use Rattle.edges.proofs.Counts.{count_more, count_skip, count_end, times_le}
use Rattle.edges.proofs.neighbours.count_ends.Goals.{then-v-n, else-v-n}
use Rattle.edges.proofs.neighbours.count_ends.Goals as goal

pub overflow_add-counts : goal.overflow_add-counts
overflow_add-counts c =
    let l = c.loop-v in let x = get_or c.args.ends.now l.v-index 0 in
    omega (arith, l.invariant.counting x c.if-v-n.true, times_le x c.args.ends.now, c.requires)

pub loop-v-preserved : goal.loop-v-preserved
loop-v-preserved c =
    let ends = c.args.ends.now in let l = c.loop-v in let i = l.v-index in
    elim c.if-v-n.branch [
      | then-v-n w ↦
          let room : c.args.n < length l.counts = omega (arith, l.auto, c.fill.ensures.len, c.requires) in
          rw w.counts-is (count_more ends (i + 1) i (omega arith) c.loop-v-test.true c.args.n l.counts room w.if-v-n.true l.invariant)
      | else-v-n w ↦ rw w.counts-is (count_skip ends (i + 1) i (omega arith) c.loop-v-test.true c.args.n l.counts w.if-v-n.false l.invariant)
    ]

pub returns : goal.returns
returns c =
    let l = c.loop-v in count_end c.args.n l.v-index c.args.ends.now l.counts c.loop-v-test.false l.invariant
