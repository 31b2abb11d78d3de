-- The walks round a ring, one law for each way through a turn.
use Rattle.std.proofs.Common.{◌≡◌, ◌≢◌, ◌-◌, ◌+◌, ◌<◌, ℕ, List, Bool, true, false, eqb, length, refl, arith, sym}
use Rattle.std.proofs.lemmas.Grind.{common_steps}
use Rattle.laws.specs.Run.{Run, ok, fault, and_then, while, at}
use Rattle.laws.proofs.Runs.{then_assoc, while_stop, while_torn, while_spent, while_broken, while_pass}
use Rattle.matching.specs.Graph.{Graph}
use Rattle.steps.specs.State.{State}
use Rattle.steps.specs.Ring.{around}
use Rattle.steps.specs.Expand.{Relabel, Onward, relabel_goes, relabel_move, onward_goes, onward_move}
use Rattle.expand.specs.Parts.{onward_child}
use Rattle.expand.specs.Told.{relabel_at, onward_at}

not_same : (a b : ℕ) → a ≢ b → eqb a b ≡ false
not_same a b n = grind (arith, common_steps, n)

pub same : (a b : ℕ) → a ≡ b → eqb a b ≡ true
same a b e = grind (arith, common_steps, e)

-- ---- to the base child

module _ (G : Graph) (b : ℕ) (forward : Bool) (left place p : ℕ) (s : State) where
  abbrev move : Relabel → Run Relabel
  move = relabel_move G b forward

  abbrev here : Relabel
  here = relabel_at place p s

  goes : place ≢ 0 → relabel_goes here ≡ ok true
  unfolding relabel_goes
  goes n = rw (not_same place 0 n)

  pub walk_ends : place ≡ 0 → while relabel_goes move left here ≡ ok here
  unfolding relabel_goes
  walk_ends z = while_stop relabel_goes move left here (rw (same place 0 z))

  pub walk_spent : place ≢ 0 → left ≡ 0 → while relabel_goes move left here ≡ fault
  walk_spent n z = while_spent relabel_goes move left here z (goes n)

  pub walk_lost : place ≢ 0 → move here ≡ fault → while relabel_goes move left here ≡ fault
  walk_lost n e = while_broken relabel_goes move left here (goes n) e

-- pass i of m
module _ (G : Graph) (b : ℕ) (forward : Bool) (m i place p : ℕ) (s : State) where
  pub walk_on : (j q : ℕ) (t : State) → place ≢ 0 → i < m → relabel_move G b forward (relabel_at place p s) ≡ ok (relabel_at j q t)
      → while relabel_goes (relabel_move G b forward) (m - (i + 1)) (relabel_at j q t)
      ≡ while relabel_goes (relabel_move G b forward) (m - i) (relabel_at place p s)
  walk_on j q t n h e =
      let a : m - (i + 1) ≡ m - i - 1 = omega arith in
      rw a (sym (while_pass relabel_goes (relabel_move G b forward) (m - i) (relabel_at place p s) (relabel_at j q t) (omega arith)
      (goes G b forward (m - i) place p s n) e))

pub ruleset relabels = (walk_ends, walk_spent, walk_lost, walk_on)

-- ---- on from there

module _ (G : Graph) (b entry : ℕ) (forward : Bool) (left place : ℕ) (s : State) where
  abbrev go : Onward → Run Bool
  go = onward_goes b entry

  abbrev step : Onward → Run Onward
  step = onward_move G b forward

  abbrev at_place : Onward
  at_place = onward_at place s

  abbrev rest : Run State
  rest = and_then (while go step left at_place) (λ o. ok o.state)

  pub onward_out : at s.forest.children b ≡ fault → rest ≡ fault
  unfolding onward_goes
  onward_out e = rw (while_torn go step left at_place (rw e)) refl

  module _ (kids : List ℕ) (e : at s.forest.children b ≡ ok kids) where
    pub onward_none : at kids place ≡ fault → rest ≡ fault
    unfolding onward_goes
    onward_none h = rw (while_torn go step left at_place (rw (e, h))) refl

    module _ (c : ℕ) (h : at kids place ≡ ok c) where
      more : c ≢ entry → go at_place ≡ ok true
      unfolding onward_goes
      more n = rw (e, h, not_same c entry n)

      pub onward_ends : c ≡ entry → rest ≡ ok s
      unfolding onward_goes
      onward_ends q = rw (while_stop go step left at_place (rw (e, h, same c entry q))) refl

      pub onward_spent : c ≢ entry → left ≡ 0 → rest ≡ fault
      onward_spent n z = rw (while_spent go step left at_place z (more n)) refl

      abbrev next : State → Onward
      next t = onward_at (around forward (length kids) place) t

      moved : step at_place ≡ and_then (onward_child G c s) (λ t. ok (next t))
      unfolding onward_move onward_child
      moved = rw (e, h) (sym (then_assoc (at s.labelling.labels c) _ _))

      pub onward_lost : c ≢ entry → onward_child G c s ≡ fault → rest ≡ fault
      onward_lost n f = let d : step at_place ≡ fault = rw f at moved in rw (while_broken go step left at_place (more n) d) refl

      pub onward_on : (m i : ℕ) (t : State) → left ≡ m - i → i < m → c ≢ entry → onward_child G c s ≡ ok t
          → and_then (while go step (m - (i + 1)) (next t)) (λ o. ok o.state) ≡ rest
      onward_on m i t z l n f =
          let d : step at_place ≡ ok (next t) = rw f at moved in
          let a : m - (i + 1) ≡ left - 1 = omega (arith, z) in
          rw (a, while_pass go step left at_place (next t) (omega (arith, z, l)) (more n) d) refl

pub ruleset onwards = (onward_out, onward_none, onward_ends, onward_spent, onward_lost, onward_on)
