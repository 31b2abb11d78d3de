-- A buffer, the first bytes of which are text, and text put after them as far as there is room.
use Rattle.std.specs.Prelude.{List, ◌++◌, ℕ, ◌+◌, ◌-◌, length, take, drop}

-- a buffer, the first `len` bytes of which are in use
pub record Page : Type 0 where
  pub bytes : List ℕ
  pub len : ℕ

abbrev pub page : List ℕ → ℕ → Page
page bytes len = record { bytes = bytes; len = len }

-- the text after the bytes in use, cut at the buffer's end; every byte after it is as it was
unfoldable pub with_text : List ℕ → Page → Page
with_text text p =
    let fits = take (length p.bytes - p.len) text in
    record {
      bytes = take p.len p.bytes ++ (fits ++ drop (p.len + length fits) p.bytes);
      len = p.len + length fits;
    }
