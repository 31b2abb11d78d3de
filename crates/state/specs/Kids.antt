-- The children of a group by the places that they lie in, and a group's number made free. Definitions only.
use Rattle.std.specs.Prelude.{◌≡◌, ◌*◌, ◌-◌, List, ℕ, Result, Ok, Err, take, drop}
use Rattle.laws.specs.Run.{Run, ok, fault, ◌>>=◌, push}
use Rattle.numbers.specs.declared.faults.Fault.{Fault}
use Rattle.steps.specs.State.{State}
use Rattle.steps.specs.Stores.{with_free}

-- the first m of the n places of group b
abbrev pub kids_row : (n b m : ℕ) → (places : List ℕ) → List ℕ
kids_row n b m places = take m (drop ((b - n) * n) places)

-- the row x of group b is the first so many of its places
abbrev pub Counts : (n b : ℕ) → (places : List ℕ) → Run (List ℕ) → Result ℕ Fault → Type 0
Counts n b places x (Ok m) = x ≡ ok (kids_row n b m places)
Counts n b places x (Err e) = x ≡ fault

-- number b goes on the end of the free numbers, of which there are at most n
abbrev pub freed : (n b : ℕ) → State → Run State
freed n b s = push n b s.forest.free >>= λ free. ok (with_free free s)
