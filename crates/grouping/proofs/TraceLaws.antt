-- The walk back along a path, one law for each way through a turn.
use Rattle.std.proofs.Common.{◌≡◌, ◌≢◌, ◌-◌, ◌+◌, ◌<◌, ◌≤◌, List, [], ◌∷◌, ◌++◌, ℕ, true, false, eqb, length, refl, arith, sym}
use Rattle.std.proofs.lemmas.Grind.{common_steps}
use Rattle.laws.specs.Run.{ok, fault, while}
use Rattle.laws.proofs.Runs.{while_stop, while_spent, while_broken, while_pass}
use Rattle.matching.specs.Graph.{Graph}
use Rattle.steps.specs.State.{State}
use Rattle.steps.specs.Add.{trace_goes, trace_move}
use Rattle.grouping.specs.Parts.{standing}
use Rattle.grouping.specs.Paths.{Pathed, longer}

not_same : (a b : ℕ) → a ≢ b → eqb a b ≡ false
not_same a b n = grind (arith, common_steps, n)

same : (a b : ℕ) → a ≡ b → eqb a b ≡ true
same a b e = grind (arith, common_steps, e)

longer_by_one : (kids : List ℕ) (x : ℕ) → length (kids ++ (x ∷ [])) ≡ length kids + 1
longer_by_one [] x = refl
longer_by_one (y ∷ ys) x = let h = longer_by_one ys x in omega (arith, h)

module _ (G : Graph) (s : State) (stop here : ℕ) (p : Pathed) where
  goes : here ≢ stop → trace_goes stop (standing here p.kids p.ends) ≡ ok true
  unfolding trace_goes
  goes n = rw (not_same here stop n)

  pub trace_ends : (m : ℕ) → here ≡ stop
      → while (trace_goes stop) (trace_move G s) m (standing here p.kids p.ends) ≡ ok (standing stop p.kids p.ends)
  unfolding trace_goes
  trace_ends m e =
      rw e (while_stop (trace_goes stop) (trace_move G s) m (standing stop p.kids p.ends) (rw (same stop stop refl)))

  pub trace_lost : (m : ℕ) → here ≢ stop → trace_move G s (standing here p.kids p.ends) ≡ fault
      → while (trace_goes stop) (trace_move G s) m (standing here p.kids p.ends) ≡ fault
  trace_lost m n e = while_broken (trace_goes stop) (trace_move G s) m (standing here p.kids p.ends) (goes n) e

  pub trace_full : here ≢ stop → p.room ≤ length p.kids
      → while (trace_goes stop) (trace_move G s) (p.room - length p.kids) (standing here p.kids p.ends) ≡ fault
  trace_full n h =
      while_spent (trace_goes stop) (trace_move G s) (p.room - length p.kids) (standing here p.kids p.ends) (omega arith) (goes n)

  pub trace_on : (t e : ℕ) (q : Pathed) → here ≢ stop → length p.kids < p.room → q ≡ longer here e p
      → trace_move G s (standing here p.kids p.ends) ≡ ok (standing t (p.kids ++ (here ∷ [])) (p.ends ++ (e ∷ [])))
      → while (trace_goes stop) (trace_move G s) (q.room - length q.kids) (standing t q.kids q.ends)
      ≡ while (trace_goes stop) (trace_move G s) (p.room - length p.kids) (standing here p.kids p.ends)
  trace_on t e q n h k m =
      let l : p.room - length (p.kids ++ (here ∷ [])) ≡ p.room - length p.kids - 1 = omega (arith, longer_by_one p.kids here) in
      rw (k, l) (sym (while_pass (trace_goes stop) (trace_move G s) (p.room - length p.kids) (standing here p.kids p.ends)
      (standing t (p.kids ++ (here ∷ [])) (p.ends ++ (e ∷ []))) (omega (arith, h)) (goes n) m))

pub ruleset traces = (trace_ends, trace_lost, trace_full, trace_on)
