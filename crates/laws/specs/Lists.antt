-- Lists: a fact of each entry, of some entry, of any two; ranges of numbers, the entries that pass a test; sums of naturals and of integers.
-- Definitions only.
use Rattle.std.specs.Prelude.{Bool, true, false, cond, ◌&&◌, ◌||◌, ◌⊎◌, List, [], ◌∷◌, ℕ, zero, suc, ◌+◌, ℤ, pos, ◌+ℤ◌, eqb}

-- ---- facts

-- P holds of each entry; of some entry; R holds of any two entries at different places, the earlier one first
abbrev pub Each : {A : Type 0} → (A → Type 0) → List A → Type 0
Each P [] = Unit {0}
Each P (x ∷ xs) = P x × Each P xs

abbrev pub Some : {A : Type 0} → (A → Type 0) → List A → Type 0
Some P [] = ⊥
Some P (x ∷ xs) = P x ⊎ Some P xs

abbrev pub EachPair : {A : Type 0} → (A → A → Type 0) → List A → Type 0
EachPair R [] = Unit {0}
EachPair R (x ∷ xs) = Each (R x) xs × EachPair R xs

-- ---- lists made

-- the numbers from, from + 1, .., count of them
unfoldable pub range : (from count : ℕ) → List ℕ
range from zero = []
range from (suc count) = from ∷ range (suc from) count

-- the entries that pass a test, in order
unfoldable pub keep : {A : Type 0} → (A → Bool) → List A → List A
keep p [] = []
keep p (x ∷ xs) = cond (p x) (x ∷ keep p xs) (keep p xs)

-- ---- tests

-- each entry passes
unfoldable pub all : {A : Type 0} → (A → Bool) → List A → Bool
all p [] = true
all p (x ∷ xs) = p x && all p xs

unfoldable pub member : ℕ → List ℕ → Bool
member x [] = false
member x (y ∷ ys) = eqb y x || member x ys

-- some number is there twice
unfoldable pub repeats : List ℕ → Bool
repeats [] = false
repeats (x ∷ xs) = member x xs || repeats xs

-- ---- sums

unfoldable pub sum : {A : Type 0} → List A → (A → ℕ) → ℕ
sum [] f = 0
sum (x ∷ xs) f = f x + sum xs f

unfoldable pub total : {A : Type 0} → List A → (A → ℤ) → ℤ
total [] f = pos 0
total (x ∷ xs) f = f x +ℤ total xs f

-- a test as a number
abbrev pub bit : Bool → ℕ
bit true = 1
bit false = 0
