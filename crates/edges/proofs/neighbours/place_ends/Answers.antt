use Rattle.std.proofs.Common.{◌+◌, ◌-◌, ◌<◌, suc, length, refl, arith, ◌≡◌}
use Rattle.edges.proofs.Placing.{placed_none, placed_skip, placed_room, placed_more, placed_past, placed_all, placed_begun}
use Rattle.edges.proofs.neighbours.place_ends.Goals as goal

pub loop-p-init : goal.loop-p-init
loop-p-init c =
    let a = c.args in let p = c.requires.summed in record { placed = placed_none a.n a.ends.now p.0 a.offsets.now a.far.now p.1 p.2; past = refl }

pub overflow_sub-k : goal.overflow_sub-k
overflow_sub-k c =
    let l = c.loop-p in let p = c.requires in
    let room =
    placed_room l.invariant.placed (l.p - 1) (omega (arith, c.loop-p-test.true)) (omega (arith, c.loop-p-test.true, l.auto)) c.if-v-n.true
    (omega (arith, l.auto, p)) (omega (arith, l.auto, p)) in
    omega (arith, room)

pub bounds-far-k : goal.bounds-far-k
bounds-far-k c =
    let l = c.loop-p in let p = c.requires in
    let room =
    placed_room l.invariant.placed (l.p - 1) (omega (arith, c.loop-p-test.true)) (omega (arith, c.loop-p-test.true, l.auto)) c.if-v-n.true
    (omega (arith, l.auto, p)) (omega (arith, l.auto, p)) in
    omega (arith, room, l.auto, p)

pub loop-p-preserved-then-v-n : goal.loop-p-preserved-then-v-n
loop-p-preserved-then-v-n c =
    let l = c.loop-p in let p = c.requires in
    let q : suc (l.p - 1) ≡ l.p = omega (arith, c.loop-p-test.true) in
    let h : l.p - 1 < length c.args.ends.now = omega (arith, c.loop-p-test.true, l.auto) in
    let lo : length l.offsets ≡ c.args.n + 1 = omega (arith, l.auto, p) in
    let lf : length l.far ≡ length c.args.ends.now = omega (arith, l.auto, p) in
    rw (c.number.ensures, c.beside.ensures, c.of.ensures)
    (record {
      placed = placed_more l.invariant.placed (l.p - 1) q h c.if-v-n.true lo lf;
      past = placed_past l.invariant.placed (l.p - 1) q h c.if-v-n.true lo lf c.args.far.now l.invariant.past;
    })

pub loop-p-preserved : goal.loop-p-preserved
loop-p-preserved c =
    let l = c.loop-p in
    record {
      placed = placed_skip l.invariant.placed (l.p - 1) (omega (arith, c.loop-p-test.true)) (omega (arith, c.loop-p-test.true, l.auto)) c.if-v-n.false;
      past = l.invariant.past;
    }

pub returns : goal.returns
returns c =
    let l = c.loop-p in let p = c.requires in
    let e : l.p ≡ 0 = omega (arith, c.loop-p-test.false) in
    let s = rw e at l.invariant.placed in
    let lf : length l.far ≡ length c.args.ends.now = omega (arith, l.auto, p) in
    record { table = placed_all s lf; begun = placed_begun s lf c.args.far.now l.invariant.past }
