-- What is written so far of a record, and what is left to write.
use Rattle.std.proofs.Common.{◌≡◌, ℕ, ◌+◌, ◌<◌, length, List, ◌∷◌, ◌++◌, Option, Bool, true, false, sym, ap, ◌∙◌, append_assoc, drop, get_or}
use Rattle.std.proofs.lemmas.List.{at_drop_more}
use Rattle.std.specs.Io.KnownBytes.{Appends}
use Rattle.std.proofs.KnownBytes.{Appends-trans}
use Rattle.replays.specs.Told.{line, told}

pub record Tells (old new : Option (List ℕ)) (place k : ℕ) (same : List Bool) : Type 0 where
  pub so_far : List ℕ
  pub written : Appends old new so_far
  pub left : so_far ++ told place (k + 1) (drop k same) ≡ told place 1 same

told_next : (place k : ℕ) (same : List Bool) (x : Bool) → k < length same → get_or same k false ≡ x
    → told place (k + 1) (drop k same) ≡ told place (k + 1) (x ∷ drop (k + 1) same)
told_next place k same x h e =
    at_drop_more (told place (k + 1)) same k false h ∙ ap (λ y. told place (k + 1) (y ∷ drop (k + 1) same)) e

pub tells_same : (a b : Option (List ℕ)) (place k : ℕ) (same : List Bool) → k < length same → get_or same k false ≡ true
    → Tells a b place k same → Tells a b place (k + 1) same
tells_same a b place k same h e t =
    let left = ap (λ r. t.so_far ++ r) (sym (told_next place k same true h e)) ∙ t.left in
    record { so_far = t.so_far; written = t.written; left = left }

pub tells_differs : (a b c : Option (List ℕ)) (place k : ℕ) (same : List Bool) → k < length same → get_or same k false ≡ false
    → Tells a b place k same → Appends b c (line place (k + 1)) → Tells a c place (k + 1) same
tells_differs a b c place k same h e t w =
    let one = line place (k + 1) in
    let rest = ap (λ r. t.so_far ++ r) (sym (told_next place k same false h e)) ∙ t.left in
    record {
      so_far = t.so_far ++ one;
      written = Appends-trans a b c t.so_far one t.written w;
      left = append_assoc t.so_far one _ ∙ rest;
    }

pub ruleset tells = (tells_same, tells_differs)
