use Rattle.std.proofs.Common.{rules, ◌∙◌, ◌≡◌, ap, arith, pos, get_or, w64, to_z, of_z}
use mir.ValLaws.{to_z-of_z}
use Rattle.laws.specs.Integers.{lesser}
use Rattle.laws.proofs.Integers.{fits_near, lesser_near}
use Rattle.certificate.proofs.SignedLaws.{least_twice, least_next, least_end}
use Rattle.certificate.proofs.nodes.least.Goals as goal

pub loop-d-preserved : goal.loop-d-preserved
loop-d-preserved c =
    let l = c.loop-d in let ds = c.args.duals.now in
    let x = get_or ds l.d-index (pos 0) in let low = to_z w64 l.low-bits in
    let plain = to_z-of_z w64 x (fits_near x (omega (arith, c.requires.near l.d-index))) in
    let most : to_z w64 (of_z w64 c.lesser-low.result) ≡ lesser low x =
    to_z-of_z w64 c.lesser-low.result (search rules) ∙ c.lesser-low.ensures ∙ ap (lesser low) plain in
    rw most (record {
      rest = least_next ds low l.d-index c.loop-d-test.true l.invariant.rest;
      near = lesser_near 4503599627370496 low x l.invariant.near (c.requires.near l.d-index);
    })

pub returns : goal.returns
returns c =
    let l = c.loop-d in let ds = c.args.duals.now in
    least_end ds (to_z w64 l.low-bits) l.d-index c.loop-d-test.false l.invariant.rest ∙ least_twice ds (search rules)
