-- The library's search for a number in a list is the definitions' `member`.
use Rattle.std.proofs.Common.{◌≡◌, ℕ, eqb, List, [], ◌∷◌, refl}
use Rattle.std.specs.List.{list_any}
use Rattle.laws.specs.Lists.{member}

pub any_member : (x : ℕ) (l : List ℕ) → list_any (λ y. eqb y x) l ≡ member x l
unfolding member
any_member x [] = refl
any_member x (y ∷ ys) = rw (any_member x ys)
