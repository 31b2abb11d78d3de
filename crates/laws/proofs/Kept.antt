-- `Kept P r`: where the run r does not fault, P holds of its result. The form in which what a routine keeps is said and carried through
-- what comes after it, through loops, reads and stores.
use Rattle.std.specs.Prelude.{if◌then◌else◌}
use mathlib.Core.Path.{◌≡◌, refl, subst}
use mathlib.Core.Bool.{Bool, true, false}
use mathlib.Core.List.{List, [], ◌∷◌, ◌++◌}
use Prim.Native.Nat.{ℕ, zero, suc, ◌+◌, ◌≤◌, ◌<◌}
use native.Mathlib.Omega.{arith}
use lib.Dec.{T, ltb, ltb→lt}
use lib.ListN.{length, get_or, set, length-append}
use Rattle.laws.proofs.Lists.{count_on}
use Rattle.laws.specs.Run.{Run, ok, fault, ◌>>=◌, only_if, for_each, for_range, while, at, put, push}

pub at_end : (k : ℕ) → k ≡ k + 0
at_end k = omega arith

pub data Kept {A : Type 0} (P : A → Type 0) : Run A → Type 0 where
  kept : {a : A} → P a → Kept P (ok a)
  torn : Kept P fault

module _ {A B : Type 0} {Q : A → Type 0} {P : B → Type 0} where
  pub kept_bind : {m : Run A} {f : A → Run B} → Kept Q m → ((a : A) → Q a → Kept P (f a)) → Kept P (m >>= f)
  kept_bind (kept {a = a} q) k = k a q
  kept_bind torn k = torn

module _ {A : Type 0} where
  pub kept_map : {P Q : A → Type 0} {m : Run A} → ((a : A) → P a → Q a) → Kept P m → Kept Q m
  kept_map k (kept {a = a} p) = kept (k a p)
  kept_map k torn = torn

  -- what is kept of a run that did not fault
  pub kept_ok : {P : A → Type 0} (m : Run A) (a : A) → Kept P m → m ≡ ok a → P a
  kept_ok {P} m a k e = take_out (subst (Kept P) e k)
    where
      take_out : {a : A} → Kept P (ok a) → P a
      take_out (kept p) = p

  -- a read and a store: where they do not fault the number was in range
  pub kept_at : (xs : List A) (i : ℕ) (d : A) → Kept (λ a. (i < length xs) × (a ≡ get_or xs i d)) (at xs i)
  unfolding at
  kept_at [] i d = torn
  kept_at (x ∷ xs) zero d = kept (omega arith, refl)
  kept_at (x ∷ xs) (suc i) d = kept_map (λ a p. (omega (arith, p.0), p.1)) (kept_at xs i d)

  -- a push leaves no more than the cap
  pub kept_push : (cap : ℕ) (v : A) (xs : List A) → Kept (λ ys. length ys ≤ cap) (push cap v xs)
  unfolding push
  kept_push cap v xs = go (ltb (length xs) cap) (ltb→lt (length xs) cap)
    where
      go : (t : Bool) → (T t → length xs < cap) → Kept (λ ys. length ys ≤ cap) (if t then ok (xs ++ (v ∷ [])) else fault)
      go true f = kept {a = xs ++ (v ∷ [])} (rw (length-append xs (v ∷ [])) (omega (arith, f tt)))
      go false f = torn

  pub kept_put : (xs : List A) (i : ℕ) (v : A) → Kept (λ ys. (i < length xs) × (ys ≡ set xs i v)) (put xs i v)
  unfolding put
  kept_put xs i v = go (ltb i (length xs)) (ltb→lt i (length xs))
    where
      go : (t : Bool) → (T t → i < length xs) → Kept (λ ys. (i < length xs) × (ys ≡ set xs i v)) (if t then ok (set xs i v) else fault)
      go true f = kept (f tt, refl)
      go false f = torn

module _ {S : Type 0} where
  pub kept_only_if : {P : S → Type 0} (b : Bool) (f : S → Run S) (s : S) → (T b → Kept P (f s)) → P s → Kept P (only_if b f s)
  kept_only_if true f s h p = h tt
  kept_only_if false f s h p = kept p

  pub kept_for_each : {A : Type 0} {I : S → Type 0} {f : A → S → Run S} → ((x : A) (s : S) → I s → Kept I (f x s)) → (xs : List A) {s : S} → I s
      → Kept I (for_each f xs s)
  kept_for_each step [] h = kept h
  kept_for_each step (x ∷ xs) {s} h = kept_bind (step x s h) (λ t k. kept_for_each step xs k)

  pub kept_for_range : (I : ℕ → S → Type 0) (f : ℕ → S → Run S) → ((i : ℕ) (s : S) → I i s → Kept (I (suc i)) (f i s)) → (from count : ℕ) (s : S)
      → I from s → Kept (I (from + count)) (for_range f from count s)
  kept_for_range I f step from zero s h = kept (subst (λ (k : ℕ). I k s) (at_end from) h)
  kept_for_range I f step from (suc count) s h =
      subst (λ (k : ℕ). Kept (I k) (for_range f from (suc count) s)) (count_on from count)
      (kept_bind (step from s h) (λ t k. kept_for_range I f step (suc from) count t k))

  -- a while: each pass keeps the invariant, and at its end the test has failed
  module _ {I : S → Type 0} {test : S → Run Bool} {body : S → Run S} (step : (s : S) → I s → test s ≡ ok true → Kept I (body s)) where
    abbrev pub Stopped : S → Type 0
    Stopped s = I s × (test s ≡ ok false)

    last : (s : S) (r : Run Bool) → test s ≡ r → I s → Kept Stopped (r >>= λ go. if go then fault else ok s)
    last s fault e h = torn
    last s (ok true) e h = torn
    last s (ok false) e h = kept (h, e)

    next : (s : S) (m : ℕ) → ((t : S) → I t → Kept Stopped (while test body m t)) → (r : Run Bool) → test s ≡ r → I s
        → Kept Stopped (r >>= λ go. elim go [ true ↦ body s >>= λ t. while test body m t | false ↦ ok s ])
    next s m rest fault e h = torn
    next s m rest (ok true) e h = kept_bind (step s h e) (λ t k. rest t k)
    next s m rest (ok false) e h = kept (h, e)

    pub kept_while : (m : ℕ) (s : S) → I s → Kept Stopped (while test body m s)
    kept_while zero s h = last s (test s) refl h
    kept_while (suc m) s h = next s m (kept_while m) (test s) refl h
