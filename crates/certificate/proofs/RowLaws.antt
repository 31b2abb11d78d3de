-- A row of the table is a chain, and a group that it contains is a member of it.
use Rattle.std.proofs.Common.{◌≡◌, ℕ, eqb, List, [], ◌∷◌, refl}
use Rattle.std.specs.List.{list_any}
use Rattle.laws.specs.Lists.{member}
use Rattle.certificate.proofs.TableLaws.{row_is, row_fits}

pub any_member : (x : ℕ) (l : List ℕ) → list_any (λ y. eqb y x) l ≡ member x l
unfolding member
any_member x [] = refl
any_member x (y ∷ ys) = rw (any_member x ys)

pub ruleset rows = (row_is, row_fits)
