-- What the reader answered, with what stands at the front of its lists, is the definition's outcome; and its text is the file's.
use Rattle.std.specs.Prelude.{if◌then◌else◌, Result, Ok, Err}
use mathlib.Core.Path.{◌≡◌, refl, sym, ap, subst, ◌∙◌}
use mathlib.Core.Bool.{Bool, true, false}
use mathlib.Core.List.{List, [], ◌∷◌, ◌++◌, map}
use Prim.Native.Nat.{ℕ, suc, ◌+◌, ◌-◌, ◌≤◌, min, zero-le}
use native.Mathlib.Omega.{arith}
use lib.Dec.{T, eqb}
use lib.IntN.{ℤ, pos}
use lib.ListN.{length, take, drop, replicate, length-replicate, length-take, take-append-drop}
use lib.Seq.{take-append_seam}
use borrow.Author.Tests.{eq-eqb}
use Rattle.laws.proofs.Windows.{drop_replicate}
use Rattle.matching.specs.Graph.{Edge, edges_from}
use Rattle.certificate.specs.Lists.{same_length}
use Rattle.records.specs.Site as site
use Rattle.records.specs.View.{complaint_of}
use Rattle.records.specs.WholeView.{padded, told_by, ReadAs}
use Rattle.records.specs.declared.site.Head.{Head}
use Rattle.records.specs.declared.site.Refused.{Refused}
use Rattle.printed.specs.Answer.{printed_complaint}
use Rattle.printed.specs.Page.{Page, page, with_text}
use Rattle.printed.specs.View.{Put}
use Rattle.printed.proofs.Texts.{text_puts}
use Rattle.sites.specs.Answered.{plan_of_site, answered_as, answered, done_as, done}
use Rattle.plan.specs.View.{plan_lists}
use Rattle.sites.specs.View.{plan_text, plan_done}

-- ---- edges apart and together

length_map : {A B : Type 0} (f : A → B) (xs : List A) → length (map f xs) ≡ length xs
length_map f [] = refl
length_map f (x ∷ xs) = ap suc (length_map f xs)

abbrev firsts : List Edge → List ℕ
firsts E = map (λ (x : Edge). x.first) E

abbrev seconds : List Edge → List ℕ
seconds E = map (λ (x : Edge). x.second) E

abbrev weights : List Edge → List ℤ
weights E = map (λ (x : Edge). x.weight) E

together : (E : List Edge) → edges_from (firsts E) (seconds E) (weights E) ≡ E
together [] = refl
together (x ∷ xs) = ap {B = List Edge} (λ r. x ∷ r) (together xs)

-- the front of a padded list
front : {A : Type 0} (v : A) (xs : List A) (size : ℕ) → take (length xs) (padded v xs size) ≡ xs
front v xs size = take-append_seam xs (replicate (size - length xs) v)

-- ---- an accepted file's text

unequal_never : (E : List Edge) → (eqb (length (seconds E)) (length (firsts E)) ≡ true) × (eqb (length (weights E)) (length (firsts E)) ≡ true)
unequal_never E = (
  eq-eqb (length (seconds E)) (length (firsts E)) (length_map (λ (x : Edge). x.second) E ∙ sym (length_map (λ (x : Edge). x.first) E)),
  eq-eqb (length (weights E)) (length (firsts E)) (length_map (λ (x : Edge). x.weight) E ∙ sym (length_map (λ (x : Edge). x.first) E)),
)

read_text : (s : site.Site) → plan_text s.nodes (firsts s.edges) (seconds s.edges) (weights s.edges) s.flag s.budget ≡ answered_as (site.read s)
unfolding plan_text plan_lists same_length answered_as plan_of_site
read_text s = rw ((unequal_never s.edges).0, (unequal_never s.edges).1, together s.edges)

read_done : (s : site.Site) → plan_done s.nodes (firsts s.edges) (seconds s.edges) (weights s.edges) s.flag s.budget ≡ done_as (site.read s)
unfolding plan_done plan_lists same_length done_as plan_of_site
read_done s = rw ((unequal_never s.edges).0, (unequal_never s.edges).1, together s.edges)

-- ---- what was told

abbrev is_accepted : site.Told → Bool
is_accepted (site.accepted n flag budget m) = true
is_accepted (site.rejected number place) = false

abbrev nodes_in : site.Told → ℕ
nodes_in (site.accepted n flag budget m) = n
nodes_in (site.rejected number place) = 0

abbrev flag_in : site.Told → Bool
flag_in (site.accepted n flag budget m) = flag
flag_in (site.rejected number place) = false

abbrev budget_in : site.Told → ℕ
budget_in (site.accepted n flag budget m) = budget
budget_in (site.rejected number place) = 0

abbrev edges_in : site.Told → ℕ
edges_in (site.accepted n flag budget m) = m
edges_in (site.rejected number place) = 0

abbrev number_in : site.Told → ℕ
number_in (site.accepted n flag budget m) = 0
number_in (site.rejected number place) = number

abbrev place_in : site.Told → ℕ
place_in (site.accepted n flag budget m) = 0
place_in (site.rejected number place) = place

different : {B : Type 0} {x y : site.Told} → x ≡ y → T (is_accepted x) → (T (is_accepted y) → ⊥) → B
different e t f = absurd (f (subst (λ (z : site.Told). T (is_accepted z)) e t))

-- a complaint is known by its number
abbrev complaint_by : ℕ → site.Complaint
complaint_by k =
    if eqb k 1 then site.NODES
    else if eqb k 2 then site.EDGES
    else if eqb k 6 then site.BUFFER
    else if eqb k 21 then site.KIND
    else if eqb k 22 then site.CUT
    else if eqb k 23 then site.ORDER
    else if eqb k 24 then site.TIME
    else site.LONG

numbered : (c : site.Complaint) → complaint_by (site.complaint_number c) ≡ c
numbered site.NODES = refl
numbered site.EDGES = refl
numbered site.BUFFER = refl
numbered site.KIND = refl
numbered site.CUT = refl
numbered site.ORDER = refl
numbered site.TIME = refl
numbered site.LONG = refl

refused_text : (c : site.Complaint) (place : ℕ) (o : site.Outcome) → site.rejected (site.complaint_number c) place ≡ site.told o
    → printed_complaint c place ≡ answered_as o
unfolding answered_as
refused_text c place (site.read s) e = different (sym e) tt (λ t. t)
refused_text c place (site.refused d p) e =
    let q : c ≡ d = sym (numbered c) ∙ ap complaint_by (ap number_in e) ∙ numbered d in
    let r : place ≡ p = ap place_in e in
    rw (q, r)

refused_done : (number place : ℕ) (o : site.Outcome) → site.rejected number place ≡ site.told o → false ≡ done_as o
unfolding done_as
refused_done number place (site.read s) e = different (sym e) tt (λ t. t)
refused_done number place (site.refused d p) e = refl

module _ (n : ℕ) (flag : Bool) (budget m : ℕ) where
  -- the front of a list that holds one part of each edge
  part : {A : Type 0} (f : Edge → A) (v : A) (size : ℕ) {l : List A} (s : site.Site)
      → site.accepted n flag budget m ≡ site.told (site.read s) → l ≡ padded v (map f s.edges) size → take m l ≡ map f s.edges
  part f v size s e h = rw (ap edges_in e ∙ sym (length_map f s.edges), h) (front v (map f s.edges) size)

  accepted_text : (o : site.Outcome) → site.accepted n flag budget m ≡ site.told o → {F S : List ℕ} {W : List ℤ} (x y z : ℕ)
      → F ≡ padded 0 (firsts (site.edges_of o)) x → S ≡ padded 0 (seconds (site.edges_of o)) y → W ≡ padded (pos 0) (weights (site.edges_of o)) z
      → plan_text n (take m F) (take m S) (take m W) flag budget ≡ answered_as o
  accepted_text (site.read s) e x y z f g h =
      rw (
        ap nodes_in e,
        ap flag_in e,
        ap budget_in e,
        part (λ (x : Edge). x.first) 0 x s e f,
        part (λ (x : Edge). x.second) 0 y s e g,
        part (λ (x : Edge). x.weight) (pos 0) z s e h,
      ) (read_text s)
  accepted_text (site.refused c place) e x y z f g h = different e tt (λ t. t)

  accepted_done : (o : site.Outcome) → site.accepted n flag budget m ≡ site.told o → {F S : List ℕ} {W : List ℤ} (x y z : ℕ)
      → F ≡ padded 0 (firsts (site.edges_of o)) x → S ≡ padded 0 (seconds (site.edges_of o)) y → W ≡ padded (pos 0) (weights (site.edges_of o)) z
      → plan_done n (take m F) (take m S) (take m W) flag budget ≡ done_as o
  accepted_done (site.read s) e x y z f g h =
      rw (
        ap nodes_in e,
        ap flag_in e,
        ap budget_in e,
        part (λ (x : Edge). x.first) 0 x s e f,
        part (λ (x : Edge). x.second) 0 y s e g,
        part (λ (x : Edge). x.weight) (pos 0) z s e h,
      ) (read_done s)
  accepted_done (site.refused c place) e x y z f g h = different e tt (λ t. t)

-- ---- the reader's answer on lists of 2,048 entries

module _ (file F S : List ℕ) (W : List ℤ) (f : length F ≡ 2048) (g : length S ≡ 2048) (h : length W ≡ 2048) where
  whole_room : min (length F) (min (length S) (length W)) ≡ 2048
  whole_room = rw (f, g, h)

  module _ (r : Result Head Refused) (F' S' : List ℕ) (W' : List ℤ) (a : ReadAs file F S W r F' S' W') where
    outcome : told_by r ≡ site.told (site.read_site 2048 file)
    outcome = rw whole_room at a.answers

    pub complained : (x : Refused) → r ≡ Err x → printed_complaint (complaint_of x.what) x.place ≡ answered file
    complained x e = refused_text (complaint_of x.what) x.place (site.read_site 2048 file) (sym (ap told_by e) ∙ outcome)

    pub not_done : (x : Refused) → r ≡ Err x → false ≡ done file
    not_done x e = refused_done (site.complaint_number (complaint_of x.what)) x.place (site.read_site 2048 file) (sym (ap told_by e) ∙ outcome)

    module _ (x : Head) (e : r ≡ Ok x) where
      accepted : site.accepted x.nodes x.flag x.budget x.edges ≡ site.told (site.read_site 2048 file)
      accepted = sym (ap told_by e) ∙ outcome

      first_part : F' ≡ padded 0 (firsts (site.edges_of (site.read_site 2048 file))) (length F)
      first_part = rw whole_room at a.firsts

      second_part : S' ≡ padded 0 (seconds (site.edges_of (site.read_site 2048 file))) (length S)
      second_part = rw whole_room at a.seconds

      weight_part : W' ≡ padded (pos 0) (weights (site.edges_of (site.read_site 2048 file))) (length W)
      weight_part = rw whole_room at a.weights

      pub planned : plan_text x.nodes (take x.edges F') (take x.edges S') (take x.edges W') x.flag x.budget ≡ answered file
      planned =
          accepted_text x.nodes x.flag x.budget x.edges (site.read_site 2048 file) accepted (length F) (length S) (length W)
          first_part second_part weight_part

      pub planned_done : plan_done x.nodes (take x.edges F') (take x.edges S') (take x.edges W') x.flag x.budget ≡ done file
      planned_done =
          accepted_done x.nodes x.flag x.budget x.edges (site.read_site 2048 file) accepted (length F) (length S) (length W)
          first_part second_part weight_part

pub ruleset answers = (complained, not_done, planned, planned_done)

-- ---- a buffer that held only 0

put_by : (L : ℕ) {buffer after text : List ℕ} {end : ℕ} → buffer ≡ replicate L 0 → Put buffer 0 text after end
    → (after ≡ padded 0 (take L text) L) × (end ≡ length (take L text))
put_by L {buffer} {after} {text} {end} e p =
    let l : length buffer ≡ L = ap length e ∙ length-replicate L 0 in
    let k : end ≡ length (take L text) = p.counts ∙ ap (λ (i : ℕ). length (take i text)) l in
    let m : end ≤ L = omega (arith, k, length-take L text) in
    let q : end + (L - end) ≡ L = omega arith in
    let r : drop {A = ℕ} end (replicate L 0) ≡ replicate (L - end) 0 = rw q at (drop_replicate {A = ℕ} end (L - end) 0) in
    let s : drop {A = ℕ} end after ≡ replicate (L - length (take L text)) 0 =
    p.rest ∙ ap (λ (x : List ℕ). drop end x) e ∙ r ∙ ap (λ (i : ℕ). replicate (L - i) 0) k in
    let t : take end after ≡ take L text = p.holds ∙ ap (λ (i : ℕ). take i text) l in
    (sym (take-append-drop end after) ∙ ap (λ (x : List ℕ). x ++ drop end after) t ∙ ap (λ (x : List ℕ). take L text ++ x) s, k)

pub put_all : (L : ℕ) {after : List ℕ} (text : List ℕ) {end : ℕ} → page after end ≡ with_text text (page (replicate L 0) 0)
    → (after ≡ padded 0 (take L text) L) × (end ≡ length (take L text))
put_all L {after} text {end} e =
    put_by L refl (subst (λ (q : Page). Put (replicate L 0) 0 text q.bytes q.len) (sym e) (text_puts text (page (replicate L 0) 0) zero-le))
