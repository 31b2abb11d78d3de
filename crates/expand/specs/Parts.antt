-- Parts of the definition that the code has as routines of their own.
use Rattle.std.specs.Prelude.{Bool, not, ◌&&◌, ℕ, ◌*◌, eqb}
use Rattle.laws.specs.Run.{Run, ok, ◌>>=◌, only_if, for_each, while, at}
use Rattle.matching.specs.Graph.{Graph}
use Rattle.steps.specs.Ends.{present, endpoint}
use Rattle.steps.specs.State.{State}
use Rattle.steps.specs.Stores.{put_label}
use Rattle.steps.specs.Label.{base_mate, label2}
use Rattle.steps.specs.Expand.{Relabel, free_child, relabel_goes, relabel_move, onward_goes, onward_move, relabel_ring, relabel_reached, retire}

-- the children of b become outermost; sub expands a child group
unfoldable pub free_children : Graph → (sub : ℕ → State → Run State) → (last : Bool) → (b : ℕ) → State → Run State
free_children G sub last b s = do
  kids ← at s.forest.children b
  for_each (free_child G sub last) kids s

-- `expand_group`, of which sub expands a child group
unfoldable pub take_apart : Graph → (sub : ℕ → State → Run State) → (last : Bool) → (b : ℕ) → State → Run State
take_apart G sub last b s = do
  s ← free_children G sub last b s
  l ← at s.labelling.labels b
  s ← only_if (not last && eqb l 2) (relabel_ring G b) s
  retire G b s

-- `relabel_from` from the mate of the base on
unfoldable pub pass_on : Graph → (c v : ℕ) → State → Run State
pass_on G c v s = do
  m ← base_mate s c
  m ← present m
  u ← endpoint G m
  s ← put_label u 0 s
  p ← at s.labelling.label_ends v
  label2 G v p s

-- `onward_move` at child c
unfoldable pub onward_child : Graph → (c : ℕ) → State → Run State
onward_child G c s = do
  l ← at s.labelling.labels c
  only_if (not (eqb l 1)) (relabel_reached G c) s

-- the walk to the base child from a place whose child is reached through end p
abbrev pub to_base : Graph → (b : ℕ) → (forward : Bool) → (place p : ℕ) → State → Run Relabel
to_base G b forward place p s = while relabel_goes (relabel_move G b forward) (2 * G.nodes) (record { place = place; p = p; state = s })

-- the walk on from a place to the child that was entered
abbrev pub to_entry : Graph → (b : ℕ) → (forward : Bool) → (entry place : ℕ) → State → Run State
to_entry G b forward entry place s =
    while (onward_goes b entry) (onward_move G b forward) (2 * G.nodes) (record { place = place; state = s }) >>= λ o. ok o.state
