-- A computation that may stop with a fault; its tests and loops; and the reads and stores that fault where a list has no such entry.
-- Definitions only.
use Rattle.std.specs.Prelude.{if◌then◌else◌, Bool, true, false, List, [], ◌∷◌, ◌++◌, ℕ, zero, suc, eqb, ltb, length, set}

pub data Run (A : Type 0) : Type 0 where
  ok : A → Run A
  fault : Run A

infixl 1 ◌>>=◌
abbrev pub ◌>>=◌ : {A B : Type 0} → Run A → (A → Run B) → Run B
ok a >>= f = f a
fault >>= f = fault

-- the same under a name: a contract's clause has a `◌>>=◌` of its own
abbrev pub and_then : {A B : Type 0} → Run A → (A → Run B) → Run B
and_then r f = r >>= f

-- ---- tests

-- an assertion
abbrev pub must : Bool → Run (Unit {0})
must true = ok tt
must false = fault

-- f where the test passes, and nothing done where it fails: f is not computed there
abbrev pub only_if : {S : Type 0} → Bool → (S → Run S) → S → Run S
only_if true f s = f s
only_if false f s = ok s

-- ---- loops

-- for x in xs
abbrev pub for_each : {A S : Type 0} → (A → S → Run S) → List A → S → Run S
for_each f [] s = ok s
for_each f (x ∷ xs) s = f x s >>= λ s. for_each f xs s

-- for i in from .. from + count
abbrev pub for_range : {S : Type 0} → (ℕ → S → Run S) → (from count : ℕ) → S → Run S
for_range f from zero s = ok s
for_range f from (suc count) s = f from s >>= λ s. for_range f (suc from) count s

-- while test { body }: a fault where it would make more passes than `moves`
abbrev pub while : {S : Type 0} → (S → Run Bool) → (S → Run S) → (moves : ℕ) → S → Run S
while test body zero s = test s >>= λ go. if go then fault else ok s
while test body (suc moves) s =
    test s >>= λ go. elim go [ true ↦ body s >>= λ s. while test body moves s | false ↦ ok s ]

-- ---- lists

-- xs[i]
unfoldable pub at : {A : Type 0} → List A → ℕ → Run A
at [] i = fault
at (x ∷ xs) zero = ok x
at (x ∷ xs) (suc i) = at xs i

-- xs[i] = v
unfoldable pub put : {A : Type 0} → List A → ℕ → A → Run (List A)
put xs i v = if ltb i (length xs) then ok (set xs i v) else fault

-- xs.push(v), where xs holds at most cap
unfoldable pub push : {A : Type 0} → (cap : ℕ) → A → List A → Run (List A)
push cap v xs = if ltb (length xs) cap then ok (xs ++ (v ∷ [])) else fault

-- xs.pop().unwrap(): the last entry, and the list without it
pub record Popped : Type 0 where
  pub last : ℕ
  pub rest : List ℕ

unfoldable pub pop : List ℕ → Run Popped
pop [] = fault
pop (x ∷ []) = ok (record { last = x; rest = [] })
pop (x ∷ y ∷ ys) = pop (y ∷ ys) >>= λ r. ok (record { last = r.last; rest = x ∷ r.rest })

-- xs.iter().position(|y| y == x).unwrap(), counted from i
unfoldable pub position_from : (i x : ℕ) → List ℕ → Run ℕ
position_from i x [] = fault
position_from i x (y ∷ ys) = let later = position_from (suc i) x ys in if eqb y x then ok i else later

abbrev pub position : ℕ → List ℕ → Run ℕ
position x ys = position_from 0 x ys
