-- Climbing by the parents, where some parents are stored anew: who lies in what.
use mathlib.Core.Path.{◌≡◌, refl, sym, ap, ◌∙◌}
use mathlib.Core.Logic.{◌≢◌, ◌⊎◌, inl, inr, ⊎_elim}
use mathlib.Core.List.{List}
use Prim.Native.Nat.{ℕ, zero, suc, ◌+◌, ◌*◌, ◌<◌, ◌≤◌}
use native.Mathlib.Nat.{lt_of_not-le}
use native.Mathlib.Omega.{arith}
use lib.ListN.{length, set, get_or-eq_default}
use lib.Seq.{get_or-set_same, get_or-set_other}
use Rattle.laws.proofs.Times.{same_or_not}
use Rattle.matching.specs.Graph.{missing}
use Rattle.matching.specs.Certificate.{parent_of, climb}

-- ---- one parent stored

pub parent_out : (ps : List ℕ) (x : ℕ) → length ps ≤ x → parent_of ps x ≡ missing
unfolding parent_of
parent_out ps x h = get_or-eq_default ps missing h

pub parent_in : (ps : List ℕ) (x : ℕ) → parent_of ps x ≢ missing → x < length ps
parent_in ps x d = lt_of_not-le (λ h. d (parent_out ps x h))

pub parent_same : (ps : List ℕ) (x p : ℕ) → x < length ps → parent_of (set ps x p) x ≡ p
unfolding parent_of
parent_same ps x p h = get_or-set_same ps x p missing h

pub parent_other : (ps : List ℕ) (x p y : ℕ) → y ≢ x → parent_of (set ps x p) y ≡ parent_of ps y
unfolding parent_of
parent_other ps x p y d = get_or-set_other ps x y p missing d

-- ---- climbing

-- k moves lead from x to b, for some k
abbrev pub Within : List ℕ → (x b : ℕ) → Type 0
Within ps x b = (k : ℕ) × (climb ps k x ≡ b)

pub one_more : (ps : List ℕ) (x b : ℕ) → Within ps (parent_of ps x) b → Within ps x b
unfolding climb
one_more ps x b (k, e) = (suc k, e)

pub climb_on : (ps : List ℕ) (k x : ℕ) → climb ps (suc k) x ≡ parent_of ps (climb ps k x)
unfolding climb
climb_on ps zero x = refl
climb_on ps (suc k) x = climb_on ps k (parent_of ps x)

pub one_on : (ps : List ℕ) (x b c : ℕ) → Within ps x b → parent_of ps b ≡ c → Within ps x c
one_on ps x b c (k, e) h = (suc k, climb_on ps k x ∙ ap (parent_of ps) e ∙ h)

-- the last move
pub last_move : (ps : List ℕ) (k x b : ℕ) → climb ps k x ≡ b → (x ≡ b) ⊎ ((d : ℕ) × Within ps x d × (parent_of ps d ≡ b))
unfolding climb
last_move ps zero x b e = inl e
last_move ps (suc k) x b e = inr (climb ps k x, (k, refl), sym (climb_on ps k x) ∙ e)

module _ (ps : List ℕ) (short : length ps ≤ missing) where
  pub missing_stays : (k : ℕ) → climb ps k missing ≡ missing
  unfolding climb
  missing_stays zero = refl
  missing_stays (suc k) = rw (parent_out ps missing short) (missing_stays k)

  -- two outermost numbers that hold x are one
  pub one_top : (k j x b c : ℕ) → climb ps k x ≡ b → climb ps j x ≡ c → parent_of ps b ≡ missing → parent_of ps c ≡ missing → b ≢ missing → c ≢ missing → b ≡ c
  unfolding climb
  one_top zero zero x b c e f p q m n = sym e ∙ f
  one_top zero (suc j) x b c e f p q m n = absurd (n (sym f ∙ ap (climb ps j) (ap (parent_of ps) e ∙ p) ∙ missing_stays j))
  one_top (suc k) zero x b c e f p q m n = absurd (m (sym e ∙ ap (climb ps k) (ap (parent_of ps) f ∙ q) ∙ missing_stays k))
  one_top (suc k) (suc j) x b c e f p q m n = one_top k j (parent_of ps x) b c e f p q m n

  -- where only numbers without a parent get one, who lay in b still does
  pub still_within : (qs : List ℕ) → ((x : ℕ) → parent_of ps x ≢ missing → parent_of qs x ≡ parent_of ps x)
      → (k x b : ℕ) → climb ps k x ≡ b → b ≢ missing → Within qs x b
  unfolding climb
  still_within qs same zero x b e d = (0, e)
  still_within qs same (suc k) x b e d = ⊎_elim
      (λ h. absurd (d (sym e ∙ ap (climb ps k) h ∙ missing_stays k)))
      (λ h. one_more qs x b (rw (same x h) (still_within qs same k (parent_of ps x) b e d)))
      (same_or_not (parent_of ps x) missing)

-- ---- a climb that ends goes round nowhere

climb_add : (ps : List ℕ) (k a x : ℕ) → climb ps (k + a) x ≡ climb ps k (climb ps a x)
unfolding climb
climb_add ps k zero x = let e : k + 0 ≡ k = omega arith in ap (λ m. climb ps m x) e
climb_add ps k (suc a) x = let e : k + suc a ≡ suc (k + a) = omega arith in ap (λ m. climb ps m x) e ∙ climb_add ps k a (parent_of ps x)

round : (ps : List ℕ) (p b : ℕ) → climb ps p b ≡ b → (m : ℕ) → climb ps (m * p) b ≡ b
unfolding climb
round ps p b e zero = let z : 0 * p ≡ 0 = omega arith in ap (λ m. climb ps m b) z
round ps p b e (suc m) =
    let s : suc m * p ≡ m * p + p = omega arith in
    ap (λ k. climb ps k b) s ∙ climb_add ps (m * p) p b ∙ ap (climb ps (m * p)) e ∙ round ps p b e m

module _ (ps : List ℕ) (short : length ps ≤ missing) where
  no_round : (j m b : ℕ) → climb ps (suc j) b ≡ b → climb ps m b ≡ missing → b ≡ missing
  no_round j m b e z =
      let s : m * suc j ≡ m * j + m = omega arith in
      sym (round ps (suc j) b e m) ∙ ap (λ k. climb ps k b) s ∙ climb_add ps (m * j) m b ∙ ap (climb ps (m * j)) z ∙ missing_stays ps short (m * j)

  -- one move further
  ends_on : (m x : ℕ) → climb ps m x ≡ missing → climb ps m (parent_of ps x) ≡ missing
  unfolding climb
  ends_on m x z = climb_on ps m x ∙ ap (parent_of ps) z ∙ parent_out ps missing short

  -- a number that lies in a child of b lies in b's other children only if b lies in itself
  below_itself : (j m x d b : ℕ) → parent_of ps x ≡ b → climb ps (suc j) x ≡ d → parent_of ps d ≡ b → climb ps m x ≡ missing → b ≡ missing
  unfolding climb
  below_itself j m x d b p f q z = no_round j m b (climb_on ps j b ∙ ap (parent_of ps) (ap (climb ps j) (sym p) ∙ f) ∙ q)
      (ap (climb ps m) (sym p) ∙ ends_on m x z)

  -- two children of b that hold x, whose climb ends, are one
  pub one_child : (k j m x c d b : ℕ) → climb ps k x ≡ c → climb ps j x ≡ d → parent_of ps c ≡ b → parent_of ps d ≡ b → climb ps m x ≡ missing
      → b ≢ missing → c ≡ d
  unfolding climb
  one_child zero zero m x c d b e f p q z u = sym e ∙ f
  one_child zero (suc j) m x c d b e f p q z u = absurd (u (below_itself j m x d b (ap (parent_of ps) e ∙ p) f q z))
  one_child (suc k) zero m x c d b e f p q z u = absurd (u (below_itself k m x c b (ap (parent_of ps) f ∙ q) e p z))
  one_child (suc k) (suc j) m x c d b e f p q z u = one_child k j m (parent_of ps x) c d b e f p q (ends_on m x z) u

-- where one number c is freed, who lay in b still does, or lies in c
pub freed_within : (ps : List ℕ) (c p : ℕ) → (k x b : ℕ) → climb ps k x ≡ b → Within (set ps c p) x b ⊎ Within (set ps c p) x c
unfolding climb
freed_within ps c p zero x b e = inl (0, e)
freed_within ps c p (suc k) x b e = ⊎_elim
    (λ h. inr (0, h))
    (λ h. ⊎_elim (λ w. inl (one_more (set ps c p) x b (rw (parent_other ps c p x h) w))) (λ w. inr
    (one_more (set ps c p) x c (rw (parent_other ps c p x h) w))) (freed_within ps c p k (parent_of ps x) b e))
    (same_or_not x c)
