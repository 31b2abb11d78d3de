use Rattle.std.proofs.Common.{◌≡◌, sym, rules, arith, length, length-take-le}
use Rattle.certificate.proofs.GroupLaws.{count_few}
use Rattle.certificate.proofs.trial.Trial.full_pass.Goals as goal

pub slice_bounds-pairs-end : goal.slice_bounds-pairs-end
slice_bounds-pairs-end c =
    let e = c.args.self.now.edges in
    let l : length c.list_pairs-k.new.list ≡ 2048 = search rules in
    sym (length-take-le c.list_pairs-k.result c.list_pairs-k.new.list (omega (arith, c.list_pairs-k.ensures.few, count_few _ _ _ _ e.known e.weighed)))

pub slice_bounds-list-end : goal.slice_bounds-list-end
slice_bounds-list-end c =
    let e = c.args.self.now.edges in
    let l : length c.list_pairs-k.new.list ≡ 2048 = search rules in
    omega (arith, c.list_pairs-k.ensures.few, count_few _ _ _ _ e.known e.weighed)
