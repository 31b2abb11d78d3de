use Rattle.std.proofs.Common.{ℕ, ◌≡◌, ◌+◌, sym, ◌∙◌, List, arith, length, get_or, length-set}
use Rattle.laws.specs.Lists.{range}
use Rattle.laws.proofs.Lists.{length_range, get_or_range}
use Rattle.laws.proofs.Windows.{write_more, write_all}
use Rattle.state.proofs.fresh.count_up.Goals as goal

pub loop-i-preserved : goal.loop-i-preserved
loop-i-preserved c =
    let a = c.args in let l = c.loop-i in
    let new : List ℕ = range a.from (length a.list.now) in
    let e : length new ≡ length a.list.now = length_range a.from (length a.list.now) in
    let x : a.from + l.i ≡ get_or new l.i 0 = sym (get_or_range a.from (length a.list.now) l.i 0 (omega (arith, l.invariant.size))) in
    record {
      size = length-set l.list l.i (a.from + l.i) ∙ l.invariant.size;
      rest = rw (l.invariant.rest, x) (write_more a.list.now new l.i 0 (omega (arith, l.invariant.size)) (omega (arith, e)));
    }

pub returns : goal.returns
returns c =
    let a = c.args in let l = c.loop-i in
    let new : List ℕ = range a.from (length a.list.now) in
    let e : length new ≡ length a.list.now = length_range a.from (length a.list.now) in
    l.invariant.rest ∙ write_all a.list.now new l.i (omega (arith, l.invariant.size)) (omega (arith, e, l.invariant.size))
