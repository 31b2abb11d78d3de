use Rattle.std.proofs.Common.{[]}
use Rattle.laws.proofs.Kept.{kept_ok}
use Rattle.grouping.proofs.ChildLaws.{leaves_nodes}
use Rattle.grouping.proofs.consider.consider_leaves.Goals as goal

pub consider_nodes-requires : goal.consider_nodes-requires
consider_nodes-requires c =
    let a = c.args in let p = c.requires in
    let e = rw (c.clear.ensures.0) at c.in_ok-leaves.ensures.said in
    let k = leaves_nodes a.g.now.nodes c.clear.new.self.room a.lists.now.forest.lists.children a.g.now.nodes a.c [] tt in
    (p.0, p.1, rw c.entries.ensures.said (kept_ok _ _ k e))
