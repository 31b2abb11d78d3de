use Rattle.std.proofs.Common.{arith, length, ◌≤◌, ◌<◌, ◌*◌}
use Rattle.state.proofs.Rows.{rows_told, no_row, pooled_length, row_put, inside}
use Rattle.state.proofs.pools.Pool.set_row.Goals as goal

pub overflow_sub-g : goal.overflow_sub-g
overflow_sub-g c =
    let s = c.self.inside in
    let k = pooled_length s.n s.counts.now s.places.now in
    let e = rw (rows_told c.self.view_is) at k in omega (arith, c.requires.fits, e)

pub bounds-self-inside-g : goal.bounds-self-inside-g
bounds-self-inside-g c =
    let s = c.self.inside in
    let k = pooled_length s.n s.counts.now s.places.now in
    let e = rw (rows_told c.self.view_is) at k in omega (arith, c.requires.fits, e, c.self.invariant.rows)

pub write_at-requires : goal.write_at-requires
write_at-requires c =
    let s = c.self.inside in
    let k = pooled_length s.n s.counts.now s.places.now in
    let e = rw (rows_told c.self.view_is) at k in
    let h : s.n ≤ c.args.b = omega (arith, c.requires.fits, e) in
    let l : c.args.b < 2 * s.n = omega (arith, c.if-g-n.false, h) in
    let m : length c.args.items.now ≤ s.n = omega (arith, c.requires.fits, e) in
    omega (arith, c.requires.fits, e, inside s.n c.args.b s.counts.now s.places.now c.args.items.now c.self.invariant h l m)

pub returns-clause-said : goal.returns-clause-said
returns-clause-said c =
    let s = c.self.inside in
    let k = pooled_length s.n s.counts.now s.places.now in
    let e = rw (rows_told c.self.view_is) at k in
    let h : s.n ≤ c.args.b = omega (arith, c.requires.fits, e) in
    let l : c.args.b < 2 * s.n = omega (arith, c.if-g-n.false, h) in
    let m : length c.args.items.now ≤ s.n = omega (arith, c.requires.fits, e) in
    let put_there = row_put s.n c.args.b s.counts.now s.places.now c.args.items.now c.self.invariant h l m in
    rw (← rows_told c.self.view_is, c.write_at.ensures) put_there

pub returns-then-g-n-clause-said : goal.returns-then-g-n-clause-said
returns-then-g-n-clause-said c =
    let s = c.self.inside in
    let k = pooled_length s.n s.counts.now s.places.now in
    let e = rw (rows_told c.self.view_is) at k in
    rw (← rows_told c.self.view_is) (no_row s.n c.args.b s.counts.now s.places.now c.args.items.now (omega (arith, c.requires.fits, e)) c.if-g-n.true)
