use Rattle.std.proofs.Common.{◌≡◌, ap, ◌∙◌, arith}
use Rattle.laws.specs.Run.{ok}
use Rattle.state.proofs.Rows.{pooled_length}
use Rattle.state.proofs.KidsLaws.{row_lies, row_inside}
use Rattle.state.proofs.pools.Pool.count.Goals as goal

pub returns-clause-said : goal.returns-clause-said
returns-clause-said c n k =
    let s = c.self.inside in
    let p = pooled_length s.n s.counts.now s.places.now in
    let h = rw (← c.self.view_is) at k in
    let e : n ≡ s.n = omega (arith, h, p) in
    let a = c.in_ok-row.ensures.said in
    let b = rw (← c.self.view_is) at a in
    rw (e, ← c.self.view_is) (b ∙ ap ok (row_lies s.n c.args.b s.counts.now s.places.now c.in_ok-row.row.now c.self.invariant b))

pub returns-clause-inside : goal.returns-clause-inside
returns-clause-inside c n k =
    let s = c.self.inside in
    let p = pooled_length s.n s.counts.now s.places.now in
    let h = rw (← c.self.view_is) at k in
    let e : n ≡ s.n = omega (arith, h, p) in
    let a = c.in_ok-row.ensures.said in
    let b = rw (← c.self.view_is) at a in
    rw (e, ← c.self.view_is) (row_inside s.n c.args.b s.counts.now s.places.now c.in_ok-row.row.now c.self.invariant b)
