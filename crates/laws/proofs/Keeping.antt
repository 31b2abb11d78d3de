-- `Kept` through one read, store, test, push or pop; and `Agree`: two runs that fault together or give the same result, of which P holds.
use Rattle.std.specs.Prelude.{if◌then◌else◌}
use mathlib.Core.Path.{◌≡◌, refl, sym, ap, subst}
use mathlib.Core.Bool.{Bool, true, false}
use mathlib.Core.List.{List, [], ◌∷◌, ◌++◌}
use Prim.Native.Nat.{ℕ, zero, suc, ◌+◌, ◌<◌}
use lib.Dec.{T, ltb, ltb→lt, lt→ltb}
use lib.ListN.{length, get_or, set}
use Rattle.laws.specs.Lists.{Each}
use Rattle.laws.specs.Run.{Run, ok, fault, ◌>>=◌, must, only_if, for_each, for_range, while, at, put, push, pop}
use Rattle.laws.proofs.Lists.{count_on}
use Rattle.laws.proofs.Kept.{Kept, kept, torn, at_end, kept_bind, kept_at, kept_put}

-- ---- one thing at a time

module _ {B : Type 0} {P : B → Type 0} where
  -- whatever the run before gave
  pub skip : {A : Type 0} (m : Run A) (f : A → Run B) → ((a : A) → Kept P (f a)) → Kept P (m >>= f)
  skip (ok a) f k = k a
  skip fault f k = torn

  -- a read
  pub load : {A : Type 0} (xs : List A) (i : ℕ) (d : A) (f : A → Run B) → (i < length xs → Kept P (f (get_or xs i d))) → Kept P (at xs i >>= f)
  load xs i d f k = kept_bind (kept_at xs i d) (λ a h. subst (λ x. Kept P (f x)) (sym h.1) (k h.0))

  -- a store
  pub store : {A : Type 0} (xs : List A) (i : ℕ) (v : A) (f : List A → Run B) → (i < length xs → Kept P (f (set xs i v))) → Kept P (put xs i v >>= f)
  store xs i v f k = kept_bind (kept_put xs i v) (λ a h. subst (λ x. Kept P (f x)) (sym h.1) (k h.0))

  -- a store into a part of something, and what comes after
  pub stored : {A C : Type 0} (xs : List A) (i : ℕ) (v : A) (w : List A → C) (f : C → Run B) → (i < length xs → Kept P (f (w (set xs i v))))
      → Kept P ((put xs i v >>= λ l. ok (w l)) >>= f)
  unfolding put
  stored xs i v w f k = go (ltb i (length xs)) (ltb→lt i (length xs))
    where
      go : (t : Bool) → (T t → i < length xs) → Kept P (((if t then ok (set xs i v) else fault) >>= λ l. ok (w l)) >>= f)
      go true h = k (h tt)
      go false h = torn

  -- an assertion
  pub holding : (b : Bool) (f : Unit {0} → Run B) → (T b → Kept P (f tt)) → Kept P (must b >>= f)
  holding true f k = k tt
  holding false f k = torn

  -- a choice
  pub either_way : (b : Bool) (x y : Run B) → (T b → Kept P x) → ((T b → ⊥) → Kept P y) → Kept P (if b then x else y)
  either_way true x y k l = k tt
  either_way false x y k l = l (λ t. t)

-- what does not speak of the result
pub kept_known : {A : Type 0} {P : Type 0} (m : Run A) → P → Kept (λ a. P) m
kept_known (ok a) p = kept p
kept_known fault p = torn

-- several things at once
module _ {A : Type 0} (m : Run A) where
  pub kept_all : {X : Type 0} {P : X → A → Type 0} → ((x : X) → Kept (P x) m) → Kept (λ a. (x : X) → P x a) m
  kept_all {X} {P} k = go m k
    where
      out : {x : X} {a : A} → Kept (P x) (ok a) → P x a
      out (kept p) = p

      go : (m : Run A) → ((x : X) → Kept (P x) m) → Kept (λ a. (x : X) → P x a) m
      go (ok a) k = kept (λ x. out (k x))
      go fault k = torn

  pub kept_both : {P Q : A → Type 0} → Kept P m → Kept Q m → Kept (λ a. P a × Q a) m
  kept_both {P} {Q} h k = go m h k
    where
      out : {P : A → Type 0} {a : A} → Kept P (ok a) → P a
      out (kept p) = p

      go : (m : Run A) → Kept P m → Kept Q m → Kept (λ a. P a × Q a) m
      go (ok a) h k = kept (out h, out k)
      go fault h k = torn

-- for x in xs, where something is known of each
pub kept_each : {A S : Type 0} {Q : A → Type 0} {I : S → Type 0} {f : A → S → Run S} → ((x : A) (s : S) → Q x → I s → Kept I (f x s))
    → (xs : List A) {s : S} → Each Q xs → I s → Kept I (for_each f xs s)
kept_each step [] q h = kept h
kept_each step (x ∷ xs) {s} q h = kept_bind (step x s q.0 h) (λ t k. kept_each step xs q.1 k)

-- ---- the ends of a list

pub kept_pop : (xs : List ℕ) → Kept (λ r. xs ≡ r.rest ++ (r.last ∷ [])) (pop xs)
unfolding pop
kept_pop [] = torn
kept_pop (x ∷ []) = kept refl
kept_pop (x ∷ y ∷ ys) = kept_bind (kept_pop (y ∷ ys)) (λ r e. kept (ap {B = List ℕ} (λ l. x ∷ l) e))

pub kept_push : {A : Type 0} (cap : ℕ) (v : A) (xs : List A) → Kept (λ ys. ys ≡ xs ++ (v ∷ [])) (push cap v xs)
unfolding push
kept_push cap v xs = either_way (ltb (length xs) cap) (ok (xs ++ (v ∷ []))) fault (λ t. kept refl) (λ n. torn)

-- a push that has room
pub pushed : {A : Type 0} (cap : ℕ) (v : A) (xs : List A) → length xs < cap → push cap v xs ≡ ok (xs ++ (v ∷ []))
unfolding push
pushed cap v xs h = go (ltb (length xs) cap) (lt→ltb (length xs) cap h)
  where
    go : (t : Bool) → T t → (if t then ok (xs ++ (v ∷ [])) else fault) ≡ ok (xs ++ (v ∷ []))
    go true k = refl
    go false k = absurd k

-- ---- two runs

pub data Agree {A : Type 0} (P : A → Type 0) : Run A → Run A → Type 0 where
  agree : {a : A} → P a → Agree P (ok a) (ok a)
  both_torn : Agree P fault fault

module _ {A : Type 0} {P : A → Type 0} where
  pub agree_of : {m : Run A} → Kept P m → Agree P m m
  agree_of (kept p) = agree p
  agree_of torn = both_torn

  -- what the second run keeps
  pub agree_kept : {m m' : Run A} → Agree P m m' → Kept P m'
  agree_kept (agree p) = kept p
  agree_kept both_torn = torn

  pub agree_same : {m m' : Run A} → Agree P m m' → m ≡ m'
  agree_same (agree p) = refl
  agree_same both_torn = refl

  -- two runs that are known to be one
  pub agree_at : {m m' : Run A} → m ≡ m' → Kept P m → Agree P m m'
  agree_at {m} e k = subst (Agree P m) e (agree_of k)

  pub agree_map : {Q : A → Type 0} {m m' : Run A} → ((a : A) → P a → Q a) → Agree P m m' → Agree Q m m'
  agree_map k (agree {a = a} p) = agree (k a p)
  agree_map k both_torn = both_torn

  -- what else is kept
  pub agree_also : {Q : A → Type 0} {m m' : Run A} → Agree P m m' → Kept Q m → Agree (λ a. P a × Q a) m m'
  agree_also {Q} (agree p) k = agree (p, out k)
    where
      out : {a : A} → Kept Q (ok a) → Q a
      out (kept q) = q
  agree_also both_torn k = both_torn

  -- a test of the result that always passes
  pub agree_tested : {m : Run A} (test : A → Bool) → Kept P m → ((a : A) → P a → T (test a)) → Agree P m (m >>= λ a. must (test a) >>= λ u. ok a)
  agree_tested test (kept {a = a} p) h = passed (test a) (h a p)
    where
      passed : (b : Bool) → T b → Agree P (ok a) (must b >>= λ u. ok a)
      passed true t = agree p
      passed false t = absurd t
  agree_tested test torn h = both_torn

module _ {A B : Type 0} {Q : A → Type 0} {P : B → Type 0} where
  pub agree_bind : {m m' : Run A} {f f' : A → Run B} → Agree Q m m' → ((a : A) → Q a → Agree P (f a) (f' a)) → Agree P (m >>= f) (m' >>= f')
  agree_bind (agree {a = a} q) k = k a q
  agree_bind both_torn k = both_torn

module _ {B : Type 0} {P : B → Type 0} where
  pub agree_skip : {A : Type 0} (m : Run A) (f f' : A → Run B) → ((a : A) → Agree P (f a) (f' a)) → Agree P (m >>= f) (m >>= f')
  agree_skip (ok a) f f' k = k a
  agree_skip fault f f' k = both_torn

  -- two runs before that are known to be one
  pub agree_skip_same : {A : Type 0} {m m' : Run A} → m ≡ m' → (f f' : A → Run B) → ((a : A) → Agree P (f a) (f' a)) → Agree P (m >>= f) (m' >>= f')
  agree_skip_same {m = m} e f f' k = subst (λ x. Agree P (m >>= f) (x >>= f')) e (agree_skip m f f' k)

  -- a read and a store
  pub agree_load : {A : Type 0} (xs : List A) (i : ℕ) (d : A) (f f' : A → Run B) → (i < length xs → Agree P (f (get_or xs i d)) (f' (get_or xs i d)))
      → Agree P (at xs i >>= f) (at xs i >>= f')
  agree_load xs i d f f' k = agree_bind (agree_of (kept_at xs i d)) (λ a h. subst (λ x. Agree P (f x) (f' x)) (sym h.1) (k h.0))

  pub agree_stored : {A C : Type 0} (xs : List A) (i : ℕ) (v : A) (w : List A → C) (f f' : C → Run B)
      → (i < length xs → Agree P (f (w (set xs i v))) (f' (w (set xs i v))))
      → Agree P ((put xs i v >>= λ l. ok (w l)) >>= f) ((put xs i v >>= λ l. ok (w l)) >>= f')
  unfolding put
  agree_stored xs i v w f f' k = go (ltb i (length xs)) (ltb→lt i (length xs))
    where
      go : (t : Bool) → (T t → i < length xs)
          → Agree P (((if t then ok (set xs i v) else fault) >>= λ l. ok (w l)) >>= f) (((if t then ok (set xs i v) else fault) >>= λ l. ok (w l)) >>= f')
      go true h = k (h tt)
      go false h = both_torn

  -- an assertion that says the same
  pub agree_holding : (b b' : Bool) → b ≡ b' → (f f' : Unit {0} → Run B) → (T b → Agree P (f tt) (f' tt)) → Agree P (must b >>= f) (must b' >>= f')
  agree_holding b b' e f f' k = rw (← e) (go b k)
    where
      go : (b : Bool) → (T b → Agree P (f tt) (f' tt)) → Agree P (must b >>= f) (must b >>= f')
      go true k = k tt
      go false k = both_torn

  pub agree_either : (b : Bool) (x x' y y' : Run B) → (T b → Agree P x x') → ((T b → ⊥) → Agree P y y') → Agree P (if b then x else y) (if b then x' else y')
  agree_either true x x' y y' k l = k tt
  agree_either false x x' y y' k l = l (λ t. t)

  -- the same test, or one that gives the same
  pub agree_only_if : (b b' : Bool) → b ≡ b' → (f f' : B → Run B) (s : B) → Agree P (f s) (f' s) → P s → Agree P (only_if b f s) (only_if b' f' s)
  agree_only_if b b' e f f' s h p = rw (← e) (go b)
    where
      go : (b : Bool) → Agree P (only_if b f s) (only_if b f' s)
      go true = h
      go false = agree p

  -- where the test passes
  pub agree_where : (b : Bool) (f f' : B → Run B) (s : B) → (T b → Agree P (f s) (f' s)) → P s → Agree P (only_if b f s) (only_if b f' s)
  agree_where true f f' s h p = h tt
  agree_where false f f' s h p = agree p

-- a for, over a list or a range
pub agree_each : {A S : Type 0} {Q : A → Type 0} {I : S → Type 0} {f f' : A → S → Run S} → ((x : A) (s : S) → Q x → I s → Agree I (f x s) (f' x s))
    → (xs : List A) {s : S} → Each Q xs → I s → Agree I (for_each f xs s) (for_each f' xs s)
agree_each step [] q h = agree h
agree_each step (x ∷ xs) {s} q h = agree_bind (step x s q.0 h) (λ t k. agree_each step xs q.1 k)

pub agree_for_range : {S : Type 0} (I : ℕ → S → Type 0) (f f' : ℕ → S → Run S) → ((i : ℕ) (s : S) → I i s → Agree (I (suc i)) (f i s) (f' i s))
    → (from count : ℕ) (s : S) → I from s → Agree (I (from + count)) (for_range f from count s) (for_range f' from count s)
agree_for_range I f f' step from zero s h = agree (subst (λ (k : ℕ). I k s) (at_end from) h)
agree_for_range I f f' step from (suc count) s h =
    subst (λ (k : ℕ). Agree (I k) (for_range f from (suc count) s) (for_range f' from (suc count) s)) (count_on from count)
    (agree_bind (step from s h) (λ t k. agree_for_range I f f' step (suc from) count t k))

module _ {S : Type 0} {I : S → Type 0} {test : S → Run Bool} {body body' : S → Run S}
    (step : (s : S) → I s → test s ≡ ok true → Agree I (body s) (body' s)) where
  agree_last : (s : S) (r : Run Bool) → I s → Agree I (r >>= λ go. if go then fault else ok s) (r >>= λ go. if go then fault else ok s)
  agree_last s fault h = both_torn
  agree_last s (ok true) h = both_torn
  agree_last s (ok false) h = agree h

  agree_next : (s : S) (m : ℕ) → ((t : S) → I t → Agree I (while test body m t) (while test body' m t)) → (r : Run Bool) → test s ≡ r → I s
      → Agree I (r >>= λ go. elim go [ true ↦ body s >>= λ t. while test body m t | false ↦ ok s ])
      (r >>= λ go. elim go [ true ↦ body' s >>= λ t. while test body' m t | false ↦ ok s ])
  agree_next s m rest fault e h = both_torn
  agree_next s m rest (ok true) e h = agree_bind (step s h e) (λ t k. rest t k)
  agree_next s m rest (ok false) e h = agree h

  pub agree_while : (m : ℕ) (s : S) → I s → Agree I (while test body m s) (while test body' m s)
  agree_while zero s h = agree_last s (test s) h
  agree_while (suc m) s h = agree_next s m (agree_while m) (test s) refl h
