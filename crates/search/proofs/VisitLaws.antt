-- The visits, one pass at a time.
use Rattle.std.proofs.Common.{◌≡◌, ℕ, Bool, true, false, List, [], ◌∷◌, length, refl, arith}
use Rattle.laws.specs.Run.{ok, fault, pop}
use Rattle.matching.specs.Graph.{Graph, is_group}
use Rattle.steps.specs.State.{State, Progress}
use Rattle.steps.specs.Steps.{is_closing, visit, visit_all, take_node}
use Rattle.steps.specs.Stores.{with_queue}
use Rattle.state.specs.Parts.{Parts, state_of}
use Rattle.search.specs.Visits.{after, taken}

module _ (G : Graph) (v p : ℕ) (ps : List ℕ) (s : State) where
  pub visit_on : (s' : Parts) (t : Bool) (at : Progress) → t ≡ false → is_closing at.phase ≡ false → visit is_group G v p s ≡ ok (state_of s' (after t at))
      → visit_all is_group G v ps (state_of s' at) ≡ visit_all is_group G v (p ∷ ps) s
  unfolding visit_all
  visit_on s' t at f o e0 = let e = rw f at e0 in rw (e, o) refl

  pub visit_closes : (s' : Parts) (t : Bool) (at : Progress) → t ≡ true → visit is_group G v p s ≡ ok (state_of s' (after t at))
      → visit_all is_group G v (p ∷ ps) s ≡ ok (state_of s' (after true at))
  unfolding visit_all
  visit_closes s' t at f e0 = let e = rw f at e0 in rw e refl

  pub visit_lost : visit is_group G v p s ≡ fault → visit_all is_group G v (p ∷ ps) s ≡ fault
  unfolding visit_all
  visit_lost e = rw e refl

pub visit_end : (G : Graph) (v : ℕ) (ps : List ℕ) (s : State) → length ps ≡ 0 → visit_all is_group G v ps s ≡ ok s
unfolding visit_all
visit_end G v [] s h = refl
visit_end G v (p ∷ ps) s h = absurd (omega (arith, h))

pub ruleset visits = (visit_on, visit_closes, visit_lost, visit_end)

pub take_on : (G : Graph) (s s' : State) (v : ℕ) (rest : List ℕ) → pop s.labelling.queue ≡ ok (record { last = v; rest = rest })
    → s' ≡ with_queue rest s → take_node is_group G s ≡ taken G v s'
unfolding take_node taken
take_on G s s' v rest e f = rw (e, f) refl

pub take_lost : (G : Graph) (s : State) → pop s.labelling.queue ≡ fault → take_node is_group G s ≡ fault
unfolding take_node
take_lost G s e = rw e refl
