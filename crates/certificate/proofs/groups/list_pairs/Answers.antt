use Rattle.std.proofs.Common.{◌≡◌, refl, rules, arith, length-set}
use Rattle.laws.specs.Lists.{bit, keep, range}
use Rattle.matching.specs.Graph.{edge_count}
use Rattle.matching.specs.Certificate.{pairs}
use Rattle.certificate.specs.Trial.{graph}
use Rattle.certificate.proofs.GroupLaws.{list_next, bit_few}
use Rattle.certificate.proofs.groups.list_pairs.Goals as goal

pub loop-e-init : goal.loop-e-init
unfolding keep range
loop-e-init c = record { few = omega arith; room = refl; entries = refl }

pub loop-e-preserved : goal.loop-e-preserved
loop-e-preserved c =
    let r : c.from-k.result ≡ bit c.is_matched.result = search rules in
    record {
      few = omega (arith, bit_few c.is_matched.result);
      room = simp length-set c.loop-e.invariant.room;
      entries = rw r (
          list_next _ _ c.loop-e.k c.loop-e.e c.is_matched.result (omega arith) (rw c.of.ensures at c.is_matched.ensures) c.loop-e.invariant.entries
          );
    }

pub returns : goal.returns
unfolding pairs
returns c =
    let e : c.loop-e.e ≡ edge_count (graph c.args.edges.now) = omega (arith, c.count-e-end.ensures.count) in
    record { few = omega (arith, e); entries = rw e at c.loop-e.invariant.entries }
