-- The lists that stand for a list of edge entries: each field by itself, laid over zeros. Assumes nothing.
use Rattle.std.specs.Prelude.{ℕ, zero, suc, Bool, true, false, List, [], ◌∷◌, leb, ℤ, pos, length, replicate}
use Rattle.entries.specs.declared.EdgeEntry.{EdgeEntry}
use Rattle.entries.specs.declared.EdgeLists.{EdgeLists}

-- the entry that stands for what lies past the end of a list of entries
unfoldable pub no_entry : EdgeEntry
no_entry = record { first = 0; second = 0; weight = pos 0 }

-- f of the first n of es, laid over the front of zs
unfoldable pub laid : {A B : Type 0} → (A → B) → ℕ → List A → List B → List B
laid f zero es zs = zs
laid f (suc n) [] zs = zs
laid f (suc n) (e ∷ es) [] = []
laid f (suc n) (e ∷ es) (z ∷ zs) = f e ∷ laid f n es zs

abbrev pub first_of : EdgeEntry → ℕ
first_of e = e.first

abbrev pub second_of : EdgeEntry → ℕ
second_of e = e.second

abbrev pub weight_of : EdgeEntry → ℤ
weight_of e = e.weight

unfoldable pub chosen : Bool → ℕ → ℕ
chosen true n = n
chosen false n = 0

-- how many entries of es are laid: all of them where they are at most 2048, and none otherwise
unfoldable pub held : List EdgeEntry → ℕ
held es = chosen (leb (length es) 2048) (length es)

-- the lists with the first n of es laid over zeros, and the count of es
unfoldable pub lists_at : ℕ → List EdgeEntry → EdgeLists
lists_at n es = record {
  first = laid first_of n es (replicate 2048 0);
  second = laid second_of n es (replicate 2048 0);
  weight = laid weight_of n es (replicate 2048 (pos 0));
  count = length es;
}

unfoldable pub lists_of : List EdgeEntry → EdgeLists
lists_of es = lists_at (held es) es
