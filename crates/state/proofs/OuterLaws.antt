-- A number of no group, and reads that a list has room for.
use Rattle.std.proofs.Common.{◌≡◌, ◌<◌, ◌≤◌, ◌∙◌, ℕ, ℤ, pos, List, Bool, true, false, length, get_or, ltb, refl, sym, arith}
use Rattle.std.proofs.lemmas.Bool.{ltb-true, ltb-false}
use Rattle.laws.specs.Run.{ok, fault, at}
use Rattle.laws.proofs.Runs.{not_ok}
use Rattle.laws.proofs.Windows.{at_in}
use Rattle.matching.specs.Graph.{missing}
use Rattle.steps.specs.State.{Forest, Labelling, Pairing, Progress}
use Rattle.steps.specs.Adjust.{is_outermost}
use Rattle.state.specs.Parts.{whole}

pub no_group : (f : Forest) (l : Labelling) (q : Pairing) (here : Progress) (b x : ℕ)
    → at f.bases b ≡ ok x → x ≡ missing → b < length f.parents → is_outermost (whole f l q here) b ≡ ok false
unfolding is_outermost
no_group f l q here b x e m h = rw (e, m, at_in f.parents b 0 h)

pub label_there : (xs : List ℕ) (b : ℕ) → b < length xs → at xs b ≡ ok (get_or xs b 0)
label_there xs b h = at_in xs b 0 h

pub dual_there : (xs : List ℤ) (b : ℕ) → b < length xs → at xs b ≡ ok (get_or xs b (pos 0))
dual_there xs b h = at_in xs b (pos 0) h

-- a list with room for b is read there
pub read_there : (xs : List ℕ) (b : ℕ) → at xs b ≡ fault → length xs ≤ b
read_there xs b e = by (ltb b (length xs)) refl
  where
    by : (t : Bool) → ltb b (length xs) ≡ t → length xs ≤ b
    by true h = not_ok (sym e ∙ at_in xs b 0 (ltb-true b (length xs) h))
    by false h = omega (arith, ltb-false b (length xs) h)

pub ruleset outer = (no_group, read_there)

pub ruleset there = (label_there, dual_there)
