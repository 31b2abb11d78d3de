-- What two reads took, one after the other.
use Rattle.std.proofs.Common.{◌≡◌, ℕ, ◌+◌, List, Option, ◌++◌, sym, ap, ◌∙◌, subst, take, drop}
use Rattle.std.specs.Io.KnownBytes.{Consumes}
use Rattle.std.proofs.KnownBytes.{Consumes-trans}
use lib.Seq.{take-add}

pub takes_on : (a b c : Option (List ℕ)) (n m : ℕ) (old new : List ℕ) → take n new ≡ take n old
    → Consumes a b (take n old) → Consumes b c (take m (drop n new)) → Consumes a c (take (n + m) new)
takes_on a b c n m old new kept first second =
    let joined = ap (λ l. l ++ take m (drop n new)) (sym kept) ∙ sym (take-add n m new) in
    subst (Consumes a c) joined (Consumes-trans a b c _ _ first second)
