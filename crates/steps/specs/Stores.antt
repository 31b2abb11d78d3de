-- A state with one list anew (`with..`), and with one entry of one list anew (`put..`). Written out, since a record has no update.
-- Definitions only.
use Rattle.std.specs.Prelude.{Bool, List, ℕ, ℤ}
use Rattle.laws.specs.Run.{Run, ok, ◌>>=◌, put}
use Rattle.steps.specs.State.{State, Forest, Labelling, Pairing, Progress, Phase}

-- ---- one part anew

abbrev pub with_forest : Forest → State → State
with_forest x s =
    record {
      forest = x;
      labelling = s.labelling;
      pairing = s.pairing;
      progress = s.progress;
    }

abbrev pub with_labelling : Labelling → State → State
with_labelling x s =
    record {
      forest = s.forest;
      labelling = x;
      pairing = s.pairing;
      progress = s.progress;
    }

abbrev pub with_pairing : Pairing → State → State
with_pairing x s =
    record {
      forest = s.forest;
      labelling = s.labelling;
      pairing = x;
      progress = s.progress;
    }

abbrev pub with_progress : Progress → State → State
with_progress x s =
    record {
      forest = s.forest;
      labelling = s.labelling;
      pairing = s.pairing;
      progress = x;
    }

-- ---- the forest

abbrev pub with_tops : List ℕ → State → State
with_tops x s =
    with_forest
    (record {
      tops = x;
      parents = s.forest.parents;
      bases = s.forest.bases;
      children = s.forest.children;
      ring_ends = s.forest.ring_ends;
      free = s.forest.free;
    })
    s

abbrev pub with_parents : List ℕ → State → State
with_parents x s =
    with_forest
    (record {
      tops = s.forest.tops;
      parents = x;
      bases = s.forest.bases;
      children = s.forest.children;
      ring_ends = s.forest.ring_ends;
      free = s.forest.free;
    })
    s

abbrev pub with_bases : List ℕ → State → State
with_bases x s =
    with_forest
    (record {
      tops = s.forest.tops;
      parents = s.forest.parents;
      bases = x;
      children = s.forest.children;
      ring_ends = s.forest.ring_ends;
      free = s.forest.free;
    })
    s

abbrev pub with_children : List (List ℕ) → State → State
with_children x s =
    with_forest
    (record {
      tops = s.forest.tops;
      parents = s.forest.parents;
      bases = s.forest.bases;
      children = x;
      ring_ends = s.forest.ring_ends;
      free = s.forest.free;
    })
    s

abbrev pub with_ring_ends : List (List ℕ) → State → State
with_ring_ends x s =
    with_forest
    (record {
      tops = s.forest.tops;
      parents = s.forest.parents;
      bases = s.forest.bases;
      children = s.forest.children;
      ring_ends = x;
      free = s.forest.free;
    })
    s

abbrev pub with_free : List ℕ → State → State
with_free x s =
    with_forest
    (record {
      tops = s.forest.tops;
      parents = s.forest.parents;
      bases = s.forest.bases;
      children = s.forest.children;
      ring_ends = s.forest.ring_ends;
      free = x;
    })
    s

-- ---- the labelling

abbrev pub with_labels : List ℕ → State → State
with_labels x s =
    with_labelling
    (record {
      labels = x;
      label_ends = s.labelling.label_ends;
      best = s.labelling.best;
      best_lists = s.labelling.best_lists;
      allowed = s.labelling.allowed;
      queue = s.labelling.queue;
    })
    s

abbrev pub with_label_ends : List ℕ → State → State
with_label_ends x s =
    with_labelling
    (record {
      labels = s.labelling.labels;
      label_ends = x;
      best = s.labelling.best;
      best_lists = s.labelling.best_lists;
      allowed = s.labelling.allowed;
      queue = s.labelling.queue;
    })
    s

abbrev pub with_best : List ℕ → State → State
with_best x s =
    with_labelling
    (record {
      labels = s.labelling.labels;
      label_ends = s.labelling.label_ends;
      best = x;
      best_lists = s.labelling.best_lists;
      allowed = s.labelling.allowed;
      queue = s.labelling.queue;
    })
    s

abbrev pub with_best_lists : List (List ℕ) → State → State
with_best_lists x s =
    with_labelling
    (record {
      labels = s.labelling.labels;
      label_ends = s.labelling.label_ends;
      best = s.labelling.best;
      best_lists = x;
      allowed = s.labelling.allowed;
      queue = s.labelling.queue;
    })
    s

abbrev pub with_allowed : List Bool → State → State
with_allowed x s =
    with_labelling
    (record {
      labels = s.labelling.labels;
      label_ends = s.labelling.label_ends;
      best = s.labelling.best;
      best_lists = s.labelling.best_lists;
      allowed = x;
      queue = s.labelling.queue;
    })
    s

abbrev pub with_queue : List ℕ → State → State
with_queue x s =
    with_labelling
    (record {
      labels = s.labelling.labels;
      label_ends = s.labelling.label_ends;
      best = s.labelling.best;
      best_lists = s.labelling.best_lists;
      allowed = s.labelling.allowed;
      queue = x;
    })
    s

-- ---- the pairing

abbrev pub with_mates : List ℕ → State → State
with_mates x s = with_pairing (record { mates = x; duals = s.pairing.duals }) s

abbrev pub with_duals : List ℤ → State → State
with_duals x s = with_pairing (record { mates = s.pairing.mates; duals = x }) s

-- ---- the progress

abbrev pub with_stage : ℕ → State → State
with_stage x s = with_progress (record { stage = x; phase = s.progress.phase }) s

abbrev pub with_phase : Phase → State → State
with_phase x s = with_progress (record { stage = s.progress.stage; phase = x }) s

-- ---- one entry anew

abbrev pub put_top : ℕ → ℕ → State → Run State
put_top i v s = put s.forest.tops i v >>= λ l. ok (with_tops l s)

abbrev pub put_parent : ℕ → ℕ → State → Run State
put_parent i v s = put s.forest.parents i v >>= λ l. ok (with_parents l s)

abbrev pub put_base : ℕ → ℕ → State → Run State
put_base i v s = put s.forest.bases i v >>= λ l. ok (with_bases l s)

abbrev pub put_children : ℕ → List ℕ → State → Run State
put_children i v s = put s.forest.children i v >>= λ l. ok (with_children l s)

abbrev pub put_ring_ends : ℕ → List ℕ → State → Run State
put_ring_ends i v s = put s.forest.ring_ends i v >>= λ l. ok (with_ring_ends l s)

abbrev pub put_label : ℕ → ℕ → State → Run State
put_label i v s = put s.labelling.labels i v >>= λ l. ok (with_labels l s)

abbrev pub put_label_end : ℕ → ℕ → State → Run State
put_label_end i v s = put s.labelling.label_ends i v >>= λ l. ok (with_label_ends l s)

abbrev pub put_best : ℕ → ℕ → State → Run State
put_best i v s = put s.labelling.best i v >>= λ l. ok (with_best l s)

abbrev pub put_best_list : ℕ → List ℕ → State → Run State
put_best_list i v s = put s.labelling.best_lists i v >>= λ l. ok (with_best_lists l s)

abbrev pub put_allowed : ℕ → Bool → State → Run State
put_allowed i v s = put s.labelling.allowed i v >>= λ l. ok (with_allowed l s)

abbrev pub put_mate : ℕ → ℕ → State → Run State
put_mate i v s = put s.pairing.mates i v >>= λ l. ok (with_mates l s)

abbrev pub put_dual : ℕ → ℤ → State → Run State
put_dual i v s = put s.pairing.duals i v >>= λ l. ok (with_duals l s)
