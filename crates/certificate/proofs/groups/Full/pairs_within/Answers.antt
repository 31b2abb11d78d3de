use Rattle.std.proofs.Common.{◌≡◌, rules, arith}
use Rattle.laws.specs.Lists.{bit}
use Rattle.certificate.proofs.GroupLaws.{bit_few, listed_few, listed_below}
use Rattle.certificate.proofs.groups.Full.pairs_within.Goals as goal

pub inside-requires : goal.inside-requires
inside-requires c =
    let e = c.args.self.now.trial.now.edges in
    rw c.of.ensures (listed_below _ _ _ _ e.known e.weighed _ _ c.args.self.now.listed c.loop-e.e-index (omega arith))

pub overflow_add-found : goal.overflow_add-found
overflow_add-found c =
    let e = c.args.self.now.trial.now.edges in
    let r : c.from-found.result ≡ bit c.inside.result = search rules in
    omega (arith, bit_few c.inside.result, listed_few _ _ _ _ e.known e.weighed _ _ c.args.self.now.listed)
