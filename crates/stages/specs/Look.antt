-- A look at a neighbour of a taken node: what it says of the visit, and what it is told of the best edge of the node's group.
-- Definitions only.
use Rattle.std.specs.Prelude.{if◌then◌else◌, ◌≡◌, Bool, false, List, ℕ, ℤ, Option, Some, None}
use Rattle.laws.specs.Run.{Run, ok, fault, ◌>>=◌, at}
use Rattle.matching.specs.Graph.{Graph, is_missing}
use Rattle.steps.specs.Ends.{slack_of}
use Rattle.steps.specs.State.{State, Progress}
use Rattle.steps.specs.Stores.{put_best}
use Rattle.state.specs.Parts.{Parts, state_of}
use Rattle.stages.specs.declared.look.Seen.{Seen}
use Rattle.stages.specs.declared.look.Seen.TheVariants.{Pass, Own, Rest}

-- the slack of the best edge at i
unfoldable pub best_slack : Graph → (best : List ℕ) → (duals : List ℤ) → (i : ℕ) → Run ℤ
best_slack G best duals i = do
  b ← at best i
  if is_missing b then fault else slack_of G duals b

-- where one is told, the run answers it
abbrev pub Tells : Run ℤ → Option ℤ → Type 0
Tells x (Some k) = x ≡ ok k
Tells x None = Unit {0}

-- the visit of edge e from a node of group i: it changes nothing, or e, of slack k, becomes the best edge of the group
abbrev pub Looked : Seen → Graph → (i e : ℕ) → (visited : Run State) → State → Type 0
Looked Pass G i e visited s = visited ≡ ok s
Looked (Own k) G i e visited s =
    (is_missing e ≡ false) × (slack_of G s.pairing.duals e ≡ ok k) × (visited ≡ put_best i e s)
Looked Rest G i e visited s = Unit {0}

-- the same of what f does to these lists
abbrev pub Sees : Seen → Graph → (i e : ℕ) → (State → Run State) → Parts → Progress → Type 0
Sees r G i e f s here = Looked r G i e (f (state_of s here)) (state_of s here)

-- node v is of outermost group i
abbrev pub Of : Parts → (v i : ℕ) → Type 0
Of s v i = at s.forest.lists.tops v ≡ ok i

-- what is told of the slack of the best edge at i
abbrev pub Keen : Graph → Parts → (i : ℕ) → Option ℤ → Type 0
Keen G s i keen = Tells (best_slack G s.labels.lists.best s.pairing.lists.duals i) keen

-- which groups are turned, as in Augment
abbrev pub Turns : Type 0
Turns = (n c : ℕ) → Bool
