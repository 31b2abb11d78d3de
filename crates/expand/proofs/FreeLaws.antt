-- The children of a group one by one, and a group one level down.
use Rattle.std.proofs.Common.{◌≡◌, ◌≢◌, ◌+◌, ◌*◌, ◌-◌, ◌<◌, ◌≤◌, ℕ, zero, suc, Bool, List, length, get_or, drop}
use Rattle.std.proofs.Common.{refl, sym, ◌∙◌, arith, drop-cons, drop_of_length-le, add-one}
use lib.ListN.{length-take, length-drop}
use lib.Seq.{get_or-take, get_or-drop}
use Rattle.laws.specs.Run.{Run, ok, fault, for_each, at}
use Rattle.laws.proofs.Runs.{then_assoc}
use Rattle.matching.specs.Graph.{Graph}
use Rattle.steps.specs.State.{State}
use Rattle.steps.specs.Expand.{expand_group}
use Rattle.state.specs.Kids.{kids_row}
use Rattle.expand.specs.Parts.{free_children, take_apart}

module _ (f : ℕ → State → Run State) (n b m k : ℕ) (places : List ℕ) (s : State) where
  abbrev row : List ℕ
  row = kids_row n b m places

  module _ (c : ℕ) (h : k < m) (fit : (b - n) * n + m ≤ length places) (e : c ≡ get_or places ((b - n) * n + k) 0) where
    inside : k < length row
    inside = simp (length-take, length-drop) (omega (arith, h, fit))

    entry : get_or row k 0 ≡ c
    entry = get_or-take m (drop ((b - n) * n) places) k 0 h ∙ get_or-drop ((b - n) * n) places k 0 ∙ sym e

    pub kids_next : (t : State) → f c s ≡ ok t → for_each f (drop (k + 1) row) t ≡ for_each f (drop k row) s
    kids_next t w = rw (add-one, drop-cons row k 0 inside, entry, w) refl

    pub kids_stop : f c s ≡ fault → for_each f (drop k row) s ≡ fault
    kids_stop w = rw (drop-cons row k 0 inside, entry, w) refl

  pub kids_end : m ≤ k → for_each f (drop k row) s ≡ ok s
  kids_end h =
      let l : length row ≤ k = simp (length-take, length-drop) (omega (arith, h)) in rw (drop_of_length-le row l) refl

pub ruleset kids_turns = (kids_next, kids_stop, kids_end)

module _ (G : Graph) (last : Bool) (b : ℕ) (s : State) where
  pub level_below : (depth : ℕ) → depth ≢ 0 → expand_group G depth last b s ≡ take_apart G (expand_group G (depth - 1) last) last b s
  unfolding expand_group take_apart free_children
  level_below zero n = absurd (n refl)
  level_below (suc d) n =
      let e : suc d - 1 ≡ d = omega arith in rw e (sym (then_assoc (at s.forest.children b) _ _))

  pub level_none : (depth : ℕ) → depth ≡ 0 → expand_group G depth last b s ≡ fault
  unfolding expand_group
  level_none depth e = rw e

pub ruleset levels = (level_below, level_none)
