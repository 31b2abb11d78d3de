use Rattle.edges.proofs.Counts.{Counting}
use Rattle.edges.proofs.neighbours.count_ends.Given as goal

abbrev pub invariant-loop-v : goal.invariant-loop-v
invariant-loop-v l = Counting l.n l.v-index l.ends l.counts
