-- A node or group that has a label and a dual. Definitions only.
use Rattle.std.specs.Prelude.{◌≡◌, ℕ, get_or, pos}
use Rattle.laws.specs.Run.{ok, at}
use Rattle.state.specs.Parts.{Parts}

abbrev pub Stands : Parts → (b : ℕ) → Type 0
Stands s b =
    (at s.labels.lists.labels b ≡ ok (get_or s.labels.lists.labels b 0))
    × (at s.pairing.lists.duals b ≡ ok (get_or s.pairing.lists.duals b (pos 0)))
