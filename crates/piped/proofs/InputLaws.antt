-- Where the reading ends, and that what is read past the most bytes of a site file tells nothing.
use Rattle.std.specs.Prelude.{Option, Some, None, Result, Ok, Err, IfOk, OnOk, IfSome}
use Rattle.std.specs.Process.{exit_status}
use Rattle.std.specs.declared.process.ExitCode.{ExitCode}
use Rattle.std.proofs.Common.{◌≡◌, refl, sym, ap, ◌∙◌, subst, Bool, true, false, List, ◌++◌, ℕ, ◌+◌, ◌<◌, ◌≤◌, length, take, drop, append-nil}
use Rattle.std.proofs.lemmas.List.{take_all, take_at, length-take-le}
use Rattle.std.specs.Io.KnownBytes.{Appends, Consumes, IsAtEnd}
use Rattle.std.proofs.KnownBytes.{Consumes-trans}
use lib.Seq.{take-add}
use native.Mathlib.Omega.{arith}
use borrow.Author.Tests.{ltb-true, ltb-false, lt-ltb}
use lib.Dec.{ltb}
use Rattle.steps.specs.Refusals.{max_edges}
use Rattle.records.specs.Site.{max_bytes, read_site}
use Rattle.sites.specs.Answered.{answered_as, answered, done_as, done}
use Rattle.piped.specs.Status.{status, status_of}
use Rattle.piped.specs.Input.{Front}

-- ---- the reading

-- what two reads took, one after the other
pub takes_on : (a b c : Option (List ℕ)) (n m : ℕ) (old new : List ℕ) → take n new ≡ take n old
    → Consumes a b (take n old) → Consumes b c (take m (drop n new)) → Consumes a c (take (n + m) new)
takes_on a b c n m old new kept first second =
    let joined = ap (λ l. l ++ take m (drop n new)) (sym kept) ∙ sym (take-add n m new) in
    subst (Consumes a c) joined (Consumes-trans a b c _ _ first second)

-- it ends at the input's end
all_read : (a b : Option (List ℕ)) (bytes : List ℕ) (room : ℕ) → length bytes ≤ room → Consumes a b bytes → IsAtEnd b → Front a room bytes
unfolding Front
all_read None b bytes room h e f = tt
all_read (Some xs) None bytes room h e f = absurd e
all_read (Some xs) (Some ys) bytes room h e f =
    let whole : xs ≡ bytes = e ∙ ap (λ r. bytes ++ r) f ∙ append-nil bytes in
    sym (take_all room bytes h) ∙ ap (λ l. take room l) (sym whole)

pub ended : (a b c : Option (List ℕ)) (n m room : ℕ) (old new : List ℕ) → n < room → length new ≡ room → take n new ≡ take n old → m ≡ 0
    → Consumes a b (take n old) → Consumes b c (take m (drop n new)) → IsAtEnd c → Front a room (take n new)
ended a b c n m room old new h l kept e first second end =
    let few : length (take n new) ≤ room = rw (length-take-le n new (omega (arith, h, l))) (omega (arith, h)) in
    let same : take (n + m) new ≡ take n new = ap (λ k. take (n + k) new) e ∙ ap (λ k. take k new) (omega arith) in
    all_read a c (take n new) room few (subst (Consumes a c) same (takes_on a b c n m old new kept first second)) end

-- or where the buffer is full
full : (a b : Option (List ℕ)) (bytes : List ℕ) (room : ℕ) → length bytes ≡ room → Consumes a b bytes → Front a room bytes
unfolding Front
full None b bytes room h e = tt
full (Some xs) None bytes room h e = absurd e
full (Some xs) (Some ys) bytes room h e = sym (ap (λ l. take room l) e ∙ take_at bytes ys room h)

pub filled : (a b : Option (List ℕ)) (n room : ℕ) (file : List ℕ) → room ≤ n → n ≤ length file → length file ≡ room
    → Consumes a b (take n file) → Front a room (take n file)
filled a b n room file h k l e = full a b (take n file) room (length-take-le n file k ∙ omega (arith, h, k, l)) e

pub ruleset reads = (takes_on, ended, filled)

-- ---- a front of more than the most bytes of a site file

same_outcome : (xs : List ℕ) (room : ℕ) → max_bytes < room → read_site max_edges (take room xs) ≡ read_site max_edges xs
unfolding read_site
same_outcome xs room h = go (ltb room (length xs)) refl
  where
    go : (t : Bool) → ltb room (length xs) ≡ t → read_site max_edges (take room xs) ≡ read_site max_edges xs
    go true e =
        let long : room < length xs = ltb-true room (length xs) e in
        let cut : length (take room xs) ≡ room = length-take-le room xs (omega (arith, long)) in
        rw (cut, lt-ltb max_bytes room h, lt-ltb max_bytes (length xs) (omega (arith, long, h)))
    go false e = ap (λ l. read_site max_edges l) (take_all room xs (ltb-false room (length xs) e))

pub same_text : (xs : List ℕ) (room : ℕ) → max_bytes < room → answered (take room xs) ≡ answered xs
same_text xs room h = ap answered_as (same_outcome xs room h)

pub same_done : (xs : List ℕ) (room : ℕ) → max_bytes < room → done (take room xs) ≡ done xs
same_done xs room h = ap done_as (same_outcome xs room h)

module _ {E : Type 0} (known : Option (List ℕ)) (room : ℕ) (bytes : List ℕ) (f : Front known room bytes) (r : Result ExitCode E) (h : max_bytes < room) where
  whole_text : (a b : Option (List ℕ)) → Appends a b (take 4096 (answered bytes)) → IfSome known (λ file. Appends a b (take 4096 (answered file)))
  unfolding Front
  whole_text a b e = go known f
    where
      go : (k : Option (List ℕ)) → Front k room bytes → IfSome k (λ file. Appends a b (take 4096 (answered file)))
      go None g = tt
      go (Some xs) g = subst (λ t. Appends a b (take 4096 t)) (ap answered g ∙ same_text xs room h) e

  whole_status : (x : ExitCode) → exit_status x ≡ status bytes → IfSome known (λ file. exit_status x ≡ status file)
  unfolding Front
  whole_status x e = go known f
    where
      go : (k : Option (List ℕ)) → Front k room bytes → IfSome k (λ file. exit_status x ≡ status file)
      go None g = tt
      go (Some xs) g = e ∙ ap status_of (ap done g ∙ same_done xs room h)

  pub told_text : (a b : Option (List ℕ)) → OnOk r (Appends a b (take 4096 (answered bytes)))
      → OnOk r (IfSome known (λ file. Appends a b (take 4096 (answered file))))
  told_text a b = go r
    where
      go : (s : Result ExitCode E) → OnOk s (Appends a b (take 4096 (answered bytes)))
          → OnOk s (IfSome known (λ file. Appends a b (take 4096 (answered file))))
      go (Ok x) e = whole_text a b e
      go (Err x) e = tt

  pub told_status : IfOk r (λ e. exit_status e ≡ status bytes) → IfOk r (λ e. IfSome known (λ file. exit_status e ≡ status file))
  told_status = go r
    where
      go : (s : Result ExitCode E) → IfOk s (λ e. exit_status e ≡ status bytes) → IfOk s (λ e. IfSome known (λ file. exit_status e ≡ status file))
      go (Ok x) e = whole_status x e
      go (Err x) e = tt
