-- What was read of an input whose bytes are known: all of it, or as much as there is room for.
use Rattle.std.specs.Prelude.{◌≡◌, List, ℕ, Option, IfSome, take}

unfoldable pub Front : Option (List ℕ) → (room : ℕ) → (bytes : List ℕ) → Type 0
Front known room bytes = IfSome known (λ file. bytes ≡ take room file)
