-- A node that was reached from outside: what is left once its own label is gone.
use Rattle.std.proofs.Common.{◌≡◌, ℕ}
use Rattle.laws.specs.Run.{ok, at}
use Rattle.matching.specs.Graph.{Graph}
use Rattle.steps.specs.State.{State}
use Rattle.steps.specs.Stores.{put_label}
use Rattle.steps.specs.Expand.{relabel_from}
use Rattle.expand.specs.Parts.{pass_on}
use Rattle.expand.proofs.WalkLaws.{same}

pub relabel_onto : (G : Graph) (c v l t : ℕ) (s u : State) → at s.labelling.labels v ≡ ok l → l ≡ 2 → at s.forest.tops v ≡ ok t → t ≡ c
    → put_label v 0 s ≡ ok u → relabel_from G c v s ≡ pass_on G c v u
unfolding relabel_from pass_on
relabel_onto G c v l t s u e two f here p = rw (e, same l 2 two, f, same t c here, p)
