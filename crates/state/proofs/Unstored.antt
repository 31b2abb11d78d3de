-- A store that faults leaves the list as it was.
use Rattle.std.proofs.Common.{◌≡◌, List, ℕ, set}
use Rattle.std.proofs.lemmas.List.{set_past}
use Rattle.laws.specs.Run.{fault, put}
use Rattle.laws.proofs.Windows.{put_fault}

pub unstored : (xs : List ℕ) (i x : ℕ) → put xs i x ≡ fault → set xs i x ≡ xs
unstored xs i x e = set_past xs i x (put_fault xs i x e)
