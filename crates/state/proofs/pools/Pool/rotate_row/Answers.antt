use Rattle.std.proofs.Common.{arith, sym, ◌∙◌, ◌<◌, ◌*◌}
use Rattle.laws.proofs.Runs.{ok_inj, not_ok}
use Rattle.numbers.proofs.PoolLaws.{at_node}
use Rattle.state.proofs.Rows.{rows_told, row_is, row_size, row_turned, pool_out, turned_past}
use Rattle.state.proofs.pools.Pool.rotate_row.Goals as goal

pub returns-then-b-self-clause-said : goal.returns-then-b-self-clause-said
returns-then-b-self-clause-said c r q =
    let s = c.self.inside in
    let w = rw (rows_told c.self.view_is) at (at_node s.n s.counts.now s.places.now c.args.b c.if-b-self.true) in
    let e = ok_inj (sym q ∙ w) in turned_past _ c.args.b c.args.i r q (rw e (omega arith))

pub returns-then-g-n-clause-said : goal.returns-then-g-n-clause-said
returns-then-g-n-clause-said c r q =
    let s = c.self.inside in
    let w = rw (rows_told c.self.view_is) at (pool_out s.n c.args.b s.counts.now s.places.now c.if-b-self.false c.if-g-n.true) in
    not_ok (sym w ∙ q)

pub returns-then-i-count-clause-said : goal.returns-then-i-count-clause-said
returns-then-i-count-clause-said c r q =
    let s = c.self.inside in
    let l : c.args.b < 2 * s.n = omega (arith, c.if-b-self.false, c.if-g-n.false) in
    let m = c.min-count.result in
    let w = rw (rows_told c.self.view_is) at
    (row_is s.n c.args.b m c.args.i s.counts.now s.places.now c.self.invariant c.if-b-self.false l c.min-count.ensures) in
    let z = row_size s.n c.args.b m c.args.i s.counts.now s.places.now c.self.invariant c.if-b-self.false l c.min-count.ensures in
    let e = ok_inj (sym q ∙ w) in turned_past _ c.args.b c.args.i r q (rw e (omega (arith, z, c.if-i-count.true)))

pub returns-clause-said : goal.returns-clause-said
returns-clause-said c r q =
    let s = c.self.inside in
    let l : c.args.b < 2 * s.n = omega (arith, c.if-b-self.false, c.if-g-n.false) in
    let m = c.min-count.result in
    let w = rw (rows_told c.self.view_is) at
    (row_is s.n c.args.b m c.args.i s.counts.now s.places.now c.self.invariant c.if-b-self.false l c.min-count.ensures) in
    let p = row_turned s.n c.args.b m c.args.i s.counts.now s.places.now c.self.invariant c.if-b-self.false l c.min-count.ensures in
    rw (ok_inj (sym q ∙ w), ← rows_told c.self.view_is, c.rotate_at.ensures) p
