-- The first place of a number in a list.
use mathlib.Core.Path.{◌≡◌, refl, sym, ap, ◌∙◌}
use mathlib.Core.Logic.{◌≢◌, ⊎_elim}
use mathlib.Core.List.{List, [], ◌∷◌, ◌++◌}
use Prim.Native.Nat.{ℕ, suc, ◌+◌, ◌<◌, ◌≤◌}
use native.Mathlib.Nat.{add-zero}
use native.Mathlib.Omega.{arith}
use borrow.Author.Tests.{eq-eqb, ne_eqb}
use lib.ListN.{length}
use Rattle.laws.specs.Run.{ok, fault, position_from}
use Rattle.laws.proofs.Runs.{not_ok, ok_inj}
use Rattle.laws.proofs.Times.{same_or_not}

-- ---- the first place

module _ (i x y : ℕ) (ys : List ℕ) where
  pub position_here : y ≡ x → position_from i x (y ∷ ys) ≡ ok i
  unfolding position_from
  position_here e = rw (eq-eqb y x e)

  pub position_later : y ≢ x → position_from i x (y ∷ ys) ≡ position_from (suc i) x ys
  unfolding position_from
  position_later d = rw (ne_eqb y x d)

pub position_bound : (i x : ℕ) (l : List ℕ) (p : ℕ) → position_from i x l ≡ ok p → (i ≤ p) × (p < i + length l)
unfolding position_from
position_bound i x [] p e = not_ok e
position_bound i x (y ∷ ys) p e = ⊎_elim
    (λ q. let r : i ≡ p = ok_inj (sym (position_here i x y ys q) ∙ e) in (omega arith, omega arith))
    (λ d. let b = position_bound (suc i) x ys p (sym (position_later i x y ys d) ∙ e) in (omega arith, omega arith))
    (same_or_not y x)

-- one entry more
pub position_other : (i x y : ℕ) (l : List ℕ) → y ≢ x → position_from i x (l ++ (y ∷ [])) ≡ position_from i x l
unfolding position_from
position_other i x y [] d = position_later i x y [] d
position_other i x y (z ∷ zs) d = ⊎_elim
    (λ q. position_here i x z (zs ++ (y ∷ [])) q ∙ sym (position_here i x z zs q))
    (λ n. position_later i x z (zs ++ (y ∷ [])) n ∙ position_other (suc i) x y zs d ∙ sym (position_later i x z zs n))
    (same_or_not z x)

pub position_new : (i x : ℕ) (l : List ℕ) → position_from i x l ≡ fault → position_from i x (l ++ (x ∷ [])) ≡ ok (i + length l)
unfolding position_from
position_new i x [] e = position_here i x x [] refl ∙ ap ok (sym (add-zero i))
position_new i x (z ∷ zs) e = ⊎_elim
    (λ q. not_ok (sym e ∙ position_here i x z zs q))
    (λ n. position_later i x z (zs ++ (x ∷ [])) n ∙ position_new (suc i) x zs (sym (position_later i x z zs n) ∙ e) ∙ ap ok (shift i (length zs)))
    (same_or_not z x)
  where
    shift : (a b : ℕ) → suc a + b ≡ a + suc b
    shift a b = omega arith
