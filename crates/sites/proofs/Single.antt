-- The contract of `plan_site` allows one result: it says what the buffer holds, byte for byte, and how many of them are the answer.
use mathlib.Core.Path.{◌≡◌, sym, ◌∙◌}
use mathlib.Core.List.{List}
use Prim.Native.Nat.{ℕ}
use lib.ListN.{length, take}
use Rattle.records.specs.WholeView.{padded}
use Rattle.sites.specs.Answered.{answered}

-- what the contract of `plan_site` says of the buffer afterwards and of the value
abbrev Planned : (file out : List ℕ) → (after : List ℕ) → (value : ℕ) → Type 0
Planned file out after value = (after ≡ padded 0 (take (length out) (answered file)) (length out)) × (value ≡ length (take (length out) (answered file)))

pub site_single : (file out : List ℕ) {a a' : List ℕ} {v v' : ℕ} → Planned file out a v → Planned file out a' v' → (a ≡ a') × (v ≡ v')
site_single file out x y = (x.0 ∙ sym y.0, x.1 ∙ sym y.1)
