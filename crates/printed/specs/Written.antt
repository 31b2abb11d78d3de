-- What a method does to the text that it writes into.
use Rattle.std.specs.Prelude.{◌≡◌, List, ℕ}
use Rattle.printed.specs.Page.{page, with_text}
use Rattle.printed.specs.declared.text.Text.{Text}

-- it puts `text` after what stands there, into the buffer that was lent
abbrev pub Puts : (text : List ℕ) → Text → Text → Type 0
Puts text t u = (page u.out.now u.len ≡ with_text text (page t.out.now t.len)) × (u.out.ghost_name ≡ t.out.ghost_name)
