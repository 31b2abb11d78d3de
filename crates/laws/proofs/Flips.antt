-- A list in three parts.
use mathlib.Core.Path.{◌≡◌, refl}
use mathlib.Core.List.{List, ◌++◌, append_assoc}
use Prim.Native.Nat.{ℕ, ◌≤◌}
use lib.ListN.{take, drop, take-append-drop}
use lib.Seq.{slice, take-take}

module _ {A : Type 0} where
  -- the entries before place f, those from there on before place t, and the others
  pub parts : (l : List A) (f t : ℕ) → f ≤ t → take f l ++ (slice f t l ++ drop t l) ≡ l
  parts l f t h =
      rw (← (take-take f t l h), ← (append_assoc (take f (take t l)) (drop f (take t l)) (drop t l)), take-append-drop f (take t l), take-append-drop t l)
