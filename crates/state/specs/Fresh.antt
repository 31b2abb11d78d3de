-- The parts of the state before the first stage. Definitions only.
use Rattle.std.specs.Prelude.{false, [], ◌++◌, ℕ, ◌*◌, ℤ, pos, replicate}
use Rattle.laws.specs.Lists.{range}
use Rattle.matching.specs.Graph.{missing}
use Rattle.steps.specs.State.{Forest, Labelling, Pairing, Progress, opening}

abbrev pub fresh_forest : (n : ℕ) → Forest
fresh_forest n = record {
  tops = range 0 n;
  parents = replicate (2 * n) missing;
  bases = range 0 n ++ replicate n missing;
  children = replicate (2 * n) [];
  ring_ends = replicate (2 * n) [];
  free = range n n;
}

abbrev pub fresh_labelling : (n m : ℕ) → Labelling
fresh_labelling n m = record {
  labels = replicate (2 * n) 0;
  label_ends = replicate (2 * n) missing;
  best = replicate (2 * n) missing;
  best_lists = replicate (2 * n) [];
  allowed = replicate m false;
  queue = [];
}

abbrev pub fresh_pairing : (n : ℕ) → (top : ℤ) → Pairing
fresh_pairing n top = record { mates = replicate n missing; duals = replicate n top ++ replicate n (pos 0) }

abbrev pub at_start : Progress
at_start = record { stage = 0; phase = opening }
