use Rattle.std.proofs.Common.{◌≡◌, length, replicate, rules}
use Rattle.state.proofs.Rows.{rows_told}
use Rattle.state.proofs.Emptied.{emptied}
use Rattle.state.proofs.pools.Pool.clear_rows.Goals as goal

pub returns-clause-said : goal.returns-clause-said
returns-clause-said c n h =
    let s = c.self.inside in
    let f : c.fill.new.self ≡ replicate (length s.counts.now) 0 = search rules in
    rw (← rows_told c.self.view_is, f) (emptied s.n s.counts.now s.places.now n c.self.invariant.rows (rw (rows_told c.self.view_is) h))
