use Rattle.std.proofs.Common.{◌≡◌, drop}
use Rattle.edges.specs.Neighbours.{below}
use Rattle.edges.proofs.Placing.{Placed}
use Rattle.edges.proofs.neighbours.place_ends.Given as goal

abbrev pub invariant-loop-p : goal.invariant-loop-p
invariant-loop-p l = record {
  placed : Placed l.n l.p l.ends l.offsets l.far;
  past : drop (below l.n l.ends) l.far ≡ drop (below l.n l.ends) l.initial.far;
}
