use Rattle.std.proofs.Common.{arith, length-set}
use Rattle.matching.specs.Graph.{beside}
use Rattle.grouping.proofs.PathLaws.{map_more}
use Rattle.grouping.proofs.path.put_beside.Goals as goal

pub loop-k-preserved : goal.loop-k-preserved
loop-k-preserved c =
    let a = c.args in let l = c.loop-k in record {
      inside = (omega (arith, c.loop-k-test.true), l.invariant.inside.1);
      room = simp length-set l.invariant.room;
      written = rw (c.number.ensures, c.beside.ensures, c.of.ensures) (map_more beside l.list _ a.ends.now a.from l.k
          (omega (arith, c.loop-k-test.true, c.requires, l.invariant.room)) (omega (arith, c.loop-k-test.true)) l.invariant.written);
    }
