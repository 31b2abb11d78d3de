-- A labelling with no label, no best edge, no candidates and nothing allowed or queued. Definitions only.
use Rattle.std.specs.Prelude.{false, [], ◌++◌, ℕ, ◌*◌, replicate, take}
use Rattle.matching.specs.Graph.{missing}
use Rattle.steps.specs.State.{Labelling}

-- for n nodes and m edges; the candidates of nodes stay, and no node has one
abbrev pub forgotten : (n m : ℕ) → Labelling → Labelling
forgotten n m l = record {
  labels = replicate (2 * n) 0;
  label_ends = replicate (2 * n) missing;
  best = replicate (2 * n) missing;
  best_lists = take n l.best_lists ++ replicate n [];
  allowed = replicate m false;
  queue = [];
}
