use Rattle.std.proofs.Common.{◌≡◌, ◌-◌, drop}
use Rattle.laws.specs.Run.{for_each}
use Rattle.steps.specs.Leaves.{leaves as leaves_of}
use Rattle.state.proofs.pools.+leaves.Given as goal

abbrev pub decreases-leaves : goal.decreases-leaves
decreases-leaves l = l.depth

abbrev pub invariant-loop-child : goal.invariant-loop-child
invariant-loop-child l = record {
  rest : for_each (λ c out. leaves_of l.n l.fn.out.room l.kids.rows (l.depth - 1) c out) (drop l.child-index l.child-items) l.out.entries
      ≡ leaves_of l.n l.fn.out.room l.kids.rows l.depth l.b l.fn.out.entries;
  room : l.out.room ≡ l.fn.out.room;
}
