-- What a function that writes does to a buffer.
use Rattle.std.specs.Prelude.{◌≡◌, List, ◌++◌, ℕ, ◌≤◌, length, take, drop}

-- `text` stands after the first `at` bytes, as far as there is room; the first `end` bytes are then in use, and the others are as they were
pub record Put (buffer : List ℕ) (at : ℕ) (text : List ℕ) (after : List ℕ) (end : ℕ) : Type 0 where
  pub holds : take end after ≡ take (length buffer) (take at buffer ++ text)
  pub within : end ≤ length after
  pub counts : end ≡ length (take (length buffer) (take at buffer ++ text))
  pub rest : drop end after ≡ drop end buffer
