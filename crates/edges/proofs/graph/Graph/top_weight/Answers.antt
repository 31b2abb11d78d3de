use Rattle.std.proofs.Common.{rules, ◌∙◌, ◌≡◌, ap, arith, pos, get_or, w64, to_z, of_z}
use mir.ValLaws.{to_z-of_z}
use Rattle.std.proofs.lemmas.Int.{ints, int_max_is}
use Rattle.laws.proofs.Integers.{fits_near}
use Rattle.std.specs.Int.{int_max}
use Rattle.edges.proofs.Lent.{lent_weights, lent_count}
use Rattle.edges.proofs.Top.{max_near, top_start, top_step, top_end}
use Rattle.edges.proofs.graph.Graph.top_weight.Goals as goal

pub loop-w-init : goal.loop-w-init
loop-w-init c = (top_start c.args.self.now.edges, omega (arith, ints), omega arith)

pub loop-w-preserved : goal.loop-w-preserved
loop-w-preserved c =
    let s = c.self.inside in let l = c.loop-w in let i = c.self.invariant in
    let w = get_or s.weights.now l.w-index (pos 0) in let top = to_z w64 l.top-bits in
    let plain = to_z-of_z w64 w (fits_near w (omega (arith, i.near.near l.w-index))) in
    let near = max_near 1000000000 top w l.invariant.2 (i.near.near l.w-index) in
    let most : to_z w64 (of_z w64 c.max-top.result) ≡ int_max top w =
    to_z-of_z w64 c.max-top.result (search rules) ∙ c.max-top.ensures.value ∙ ap (int_max top) plain in
    rw most (
      top_step c.args.self.now.edges l.w-index top l.invariant.0 s.weights.now (lent_weights _ _ _ _ c.self.view_is i.pairs) c.loop-w-test.true,
      omega (arith, ints, int_max_is top w, l.invariant.1),
      near,
    )

pub returns-clause-said : goal.returns-clause-said
returns-clause-said c =
    let l = c.loop-w in let count = lent_count _ _ _ _ c.self.view_is c.self.invariant.pairs in
    top_end c.args.self.now.edges l.w-index (to_z w64 l.top-bits) l.invariant.0 (omega (arith, count, c.loop-w-test.false)) l.invariant.1
