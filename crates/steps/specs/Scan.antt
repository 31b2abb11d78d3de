-- `scan_blossom`: a walk back from two nodes by turns. The first group met twice ends it, and its base is the result; else none.
-- The source marks the groups it has passed in the labels and restores them at the end; here the walk marks a copy of its own, so
-- the labels are left as they were. Definitions only.
use Rattle.std.specs.Prelude.{if◌then◌else◌, Bool, true, false, not, ◌&&◌, ◌||◌, List, ℕ, ◌*◌, ◌/◌, ◌%◌, eqb}
use Rattle.laws.specs.Run.{Run, ok, ◌>>=◌, must, while, at, put}
use Rattle.matching.specs.Graph.{Graph, missing, is_missing}
use Rattle.steps.specs.Ends.{present, endpoint}
use Rattle.steps.specs.State.{State}
use Rattle.steps.specs.Label.{base_mate}

pub record Walk : Type 0 where
  -- the two places, of which v moves next; missing where that path has ended
  pub v : ℕ
  pub w : ℕ
  -- the labels, with 5 at each group that the walk has passed
  pub labels : List ℕ
  -- the walk has met a mark, and the base there
  pub met : Bool
  pub base : ℕ

-- labels[b].is_none() || labels[b].unwrap() & 4 > 0
abbrev pub is_mark : ℕ → Bool
is_mark l = is_missing l || eqb (l / 4 % 2) 1

unfoldable pub walk_goes : Walk → Run Bool
walk_goes k = ok (not k.met && (not (is_missing k.v) || not (is_missing k.w)))

-- from the end e through which a label-1 group was reached, over the label-2 group there, to a node of the label-1 group before
unfoldable pub over_label2 : Graph → State → (labels : List ℕ) → ℕ → Run ℕ
over_label2 G s labels e = do
  u ← endpoint G e
  t ← at s.forest.tops u
  l ← at labels t
  _ ← must (eqb l 2)
  f ← at s.labelling.label_ends t
  f ← present f
  endpoint G f

-- one step back from the label-1 group b; missing at a root
unfoldable pub step_back : Graph → State → (labels : List ℕ) → ℕ → Run ℕ
step_back G s labels b = do
  e ← at s.labelling.label_ends b
  m ← base_mate s b
  _ ← must (eqb e m)
  if is_missing e then ok missing else over_label2 G s labels e

-- a mark is found
unfoldable pub meet : State → ℕ → Walk → Run Walk
meet s b k = do
  base ← at s.forest.bases b
  ok (record { v = k.v; w = k.w; labels = k.labels; met = true; base = base })

-- group b is marked, its path goes one step back, and the other path has the next turn unless it has ended
unfoldable pub pass_on : Graph → State → ℕ → Walk → Run Walk
pass_on G s b k = do
  l ← at k.labels b
  _ ← must (eqb l 1)
  marked ← put k.labels b 5
  x ← step_back G s marked b
  let single = is_missing k.w
  ok
      (record {
        v = if single then x else k.w;
        w = if single then missing else x;
        labels = marked;
        met = false;
        base = missing;
      })

unfoldable pub walk_move : Graph → State → Walk → Run Walk
walk_move G s k = do
  v ← present k.v
  b ← at s.forest.tops v
  l ← at k.labels b
  if is_mark l then meet s b k else pass_on G s b k

-- the meeting point's base, or missing
unfoldable pub scan : Graph → (v w : ℕ) → State → Run ℕ
scan G v w s = do
  k ←
      while walk_goes (walk_move G s) (2 * G.nodes)
      (record { v = v; w = w; labels = s.labelling.labels; met = false; base = missing })
  ok k.base
