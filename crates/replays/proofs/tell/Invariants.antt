use Rattle.replays.proofs.Telling.{Tells}
use Rattle.replays.proofs.tell.Given as goal

abbrev pub invariant-loop-k : goal.invariant-loop-k
invariant-loop-k g l = Tells (g.W.Write.contents l.initial.out) (g.W.Write.contents l.out) l.place l.k l.same
