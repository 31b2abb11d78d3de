-- Laws of looks: keeping an edge where the best one's slack is told, and a visit that a look settled.
use Rattle.std.proofs.Common.{if◌then◌else◌, ◌≡◌, ◌+◌, ◌-◌, ◌<◌, ℕ, suc, ℤ, List, ◌∷◌, Bool, true, false, refl}
use Rattle.std.proofs.Common.{drop, length, set, arith, ltb, length-set, length-drop, ap, sym, ◌∙◌, Result, Ok, Err, IfOk, is_err}
use Rattle.std.proofs.lemmas.Bool.{ltb-true}
use Rattle.std.specs.Int.Signed.{lt_z}
use Rattle.std.specs.Bool.{⊤}
use Rattle.std.specs.Result.{result_unwrap_or}
use lib.Seq.{drop-drop, get_or-set_same}
use Rattle.laws.specs.Run.{Run, ok, fault, ◌>>=◌, at, put, only_if}
use Rattle.laws.proofs.Runs.{ok_inj, not_ok}
use Rattle.laws.proofs.Windows.{at_in}
use Rattle.matching.specs.Graph.{Graph, is_missing}
use Rattle.steps.specs.Ends.{slack_of}
use Rattle.steps.specs.State.{State, Progress}
use Rattle.steps.specs.Stores.{with_best, put_best}
use Rattle.steps.specs.Steps.{keep_best, keep_edge, visit, visit_all, is_closing}
use Rattle.state.specs.Parts.{Parts, state_of}
use Rattle.numbers.specs.declared.faults.Fault.{Fault}
use Rattle.numbers.specs.Answers.{Agrees, Kept}
use Rattle.stages.specs.Look.{best_slack, Looked, Sees}
use Rattle.stages.specs.declared.look.Seen.{Seen}
use Rattle.stages.specs.declared.look.Seen.TheVariants.{Own, Rest}

-- ---- keeping an edge

told_by : (y : Run ℤ) (d : ℤ) (x : Run State) (g : ℤ → Run State) (m : Bool) → (if m then fault else y) ≡ ok d → (if m then x else (y >>= g)) ≡ g d
told_by y d x g true t = not_ok t
told_by y d x g false t = rw t

told : (G : Graph) (duals : List ℤ) (r : Run ℕ) (d : ℤ) (x : Run State) (g : ℤ → Run State)
    → (r >>= λ b. if is_missing b then fault else slack_of G duals b) ≡ ok d
    → (r >>= λ b. if is_missing b then x else (slack_of G duals b >>= g)) ≡ g d
told G duals fault d x g t = not_ok t
told G duals (ok b) d x g t = told_by (slack_of G duals b) d x g (is_missing b) t

module _ (G : Graph) (i e : ℕ) (k d : ℤ) (s : State) (t : best_slack G s.labelling.best s.pairing.duals i ≡ ok d) where
  pub keep_pass : lt_z k d ≡ false → keep_best G i e k s ≡ ok s
  unfolding keep_best best_slack
  keep_pass h =
      told G s.pairing.duals (at s.labelling.best i) d (put_best i e s) (λ (d : ℤ). only_if (lt_z k d) (put_best i e) s) t ∙ rw h

  pub keep_own : lt_z k d ≡ true → keep_best G i e k s ≡ put_best i e s
  unfolding keep_best best_slack
  keep_own h =
      told G s.pairing.duals (at s.labelling.best i) d (put_best i e s) (λ (d : ℤ). only_if (lt_z k d) (put_best i e) s) t ∙ rw h

pub looks_own : (G : Graph) (i v w e l lw : ℕ) (k d : ℤ) (s : State) → at s.forest.tops v ≡ ok i → l ≡ 1
    → best_slack G s.labelling.best s.pairing.duals i ≡ ok d → lt_z k d ≡ true → slack_of G s.pairing.duals e ≡ ok k → is_missing e ≡ false
    → Looked (Own k) G i e (keep_edge G v w e l lw k s) s
unfolding keep_edge
looks_own G i v w e l lw k d s h o b less sl m = (m, sl, rw (o, h) (keep_own G i e k d s b less))

pub ruleset keeps = (keep_pass, keep_own)

-- ---- a visit that is settled by a look

module _ (turns : (n c : ℕ) → Bool) (G : Graph) (v p : ℕ) (rest : List ℕ) (s : State) where
  pub passed : is_closing s.progress.phase ≡ false → visit turns G v p s ≡ ok s → visit_all turns G v rest s ≡ visit_all turns G v (p ∷ rest) s
  unfolding visit_all
  passed o e = rw (e, o)

  pub owned : (t : State) → is_closing t.progress.phase ≡ false → visit turns G v p s ≡ ok t
      → visit_all turns G v rest t ≡ visit_all turns G v (p ∷ rest) s
  unfolding visit_all
  owned t o e = rw (e, o)

-- what a look that may fault says, where a fault counts as Rest
pub seen : (r : Result Seen Fault) (q : Seen) (G : Graph) (i e : ℕ) (f : State → Run State) (s : Parts) (here : Progress)
    → IfOk r (λ r. Sees r G i e f s here) → q ≡ result_unwrap_or r Rest → Sees q G i e f s here
seen (Ok r) q G i e f s here h u = rw u h
seen (Err x) q G i e f s here h u = rw u tt

-- a store that is asked whether it failed
pub stored_fine : (x : Run State) (r : Result ⊤ Fault) (t : State) → Agrees x r t → false ≡ is_err r → x ≡ ok t
stored_fine x (Ok u) t a e = a
stored_fine x (Err f) t a e = cc

pub stored_not : (r : Result ⊤ Fault) (s t : Parts) → Kept r s t → true ≡ is_err r → t ≡ s
stored_not (Ok u) s t k e = cc
stored_not (Err f) s t k e = k

-- the rest of a row after its next end
pub row_on : (row left rest : List ℕ) (p : ℕ) → left ≡ drop (length row - length left) row → left ≡ p ∷ rest → rest ≡ drop (length row - length rest) row
row_on row left rest p e f =
    let n : length (drop (length row - length left) row) ≡ length row - (length row - length left) = length-drop (length row - length left) row in
    let l : length left ≡ suc (length rest) = ap length f in
    let k : length row - length rest ≡ length row - length left + 1 = omega (arith, n, l, ap length e) in
    rw (k, ← drop-drop 1 (length row - length left) row, ← e, f)

-- the best edge's slack after a store

stored : (best : List ℕ) (b x : ℕ) (l : List ℕ) → put best b x ≡ ok l → at l b ≡ ok x
unfolding put
stored best b x l e = go (ltb b (length best)) refl e
  where
    go : (t : Bool) → ltb b (length best) ≡ t → (if t then ok (set best b x) else fault) ≡ ok l → at l b ≡ ok x
    go true h e =
        let k : b < length best = ltb-true b (length best) h in
        rw (← ok_inj e) (at_in (set best b x) b x (rw (length-set best b x) k) ∙ ap ok (get_or-set_same best b x x k))
    go false h e = not_ok e

pub keen_now : (G : Graph) (b x : ℕ) (k : ℤ) (s s' : Parts) (here : Progress) → put_best b x (state_of s here) ≡ ok (state_of s' here) → is_missing x ≡ false
    → slack_of G s.pairing.lists.duals x ≡ ok k → best_slack G s'.labels.lists.best s'.pairing.lists.duals b ≡ ok k
unfolding best_slack
keen_now G b x k s s' here p m e = by (put s.labels.lists.best b x) refl p
  where
    by : (r : Run (List ℕ)) → put s.labels.lists.best b x ≡ r → (r >>= λ l. ok (with_best l (state_of s here))) ≡ ok (state_of s' here)
        → best_slack G s'.labels.lists.best s'.pairing.lists.duals b ≡ ok k
    by fault h q = not_ok q
    by (ok l) h q =
        let w : with_best l (state_of s here) ≡ state_of s' here = ok_inj q in
        let f : l ≡ s'.labels.lists.best = ap (λ (t : State). t.labelling.best) w in
        let d : s.pairing.lists.duals ≡ s'.pairing.lists.duals = ap (λ (t : State). t.pairing.duals) w in
        rw (← f, ← d, stored s.labels.lists.best b x l h, m, e)

-- a store of a best edge changes nothing else
pub only_best : (b x : ℕ) (s s' s₀ : Parts) (here : Progress) → state_of s here ≡ with_best s.labels.lists.best (state_of s₀ here)
    → put_best b x (state_of s here) ≡ ok (state_of s' here) → state_of s' here ≡ with_best s'.labels.lists.best (state_of s₀ here)
only_best b x s s' s₀ here o p = by (put s.labels.lists.best b x) p
  where
    by : (r : Run (List ℕ)) → (r >>= λ l. ok (with_best l (state_of s here))) ≡ ok (state_of s' here)
        → state_of s' here ≡ with_best s'.labels.lists.best (state_of s₀ here)
    by fault q = not_ok q
    by (ok l) q =
        let w : with_best l (state_of s here) ≡ state_of s' here = ok_inj q in
        let f : l ≡ s'.labels.lists.best = ap (λ (t : State). t.labelling.best) w in
        sym w ∙ ap (with_best l) o ∙ ap (λ m. with_best m (state_of s₀ here)) f

pub ruleset rests = (passed, owned)
