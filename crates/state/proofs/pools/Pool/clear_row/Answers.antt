use Rattle.numbers.proofs.PoolLaws.{at_node, pooled_count}
use Rattle.std.proofs.Common.{arith, [], length, ◌-◌, ◌<◌}
use Rattle.laws.proofs.Windows.{put_in}
use Rattle.state.proofs.Rows.{rows_told, pooled_length, no_row, put_same}
use Rattle.state.proofs.pools.Pool.clear_row.Goals as goal

pub returns-then-b-self-clause-said : goal.returns-then-b-self-clause-said
returns-then-b-self-clause-said c =
    let s = c.self.inside in
    rw (← rows_told c.self.view_is) (put_same _ c.args.b [] (at_node s.n s.counts.now s.places.now c.args.b c.if-b-self.true))

pub returns-then-g-self-clause-said : goal.returns-then-g-self-clause-said
returns-then-g-self-clause-said c =
    let s = c.self.inside in
    rw (← rows_told c.self.view_is) (no_row s.n c.args.b s.counts.now s.places.now [] c.if-b-self.false c.if-g-self.true)

pub returns-clause-said : goal.returns-clause-said
returns-clause-said c =
    let s = c.self.inside in
    let k = pooled_length s.n s.counts.now s.places.now in
    let h : c.args.b - s.n < length s.counts.now = omega (arith, c.if-g-self.false, c.self.invariant.rows) in
    rw (← rows_told c.self.view_is, pooled_count s.n s.counts.now s.places.now c.args.b 0 c.if-b-self.false h)
    (put_in _ c.args.b [] (omega (arith, k, c.if-g-self.false)))
