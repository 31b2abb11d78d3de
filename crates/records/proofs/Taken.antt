-- What a record that is taken leaves of the reading before it: N, which stands first, says how many nodes there are, and no other kind
-- changes that; edges are only added. So past what has been read the lists stay as they were, record after record.
use Rattle.std.proofs.Common.{◌≡◌, refl, sym, ap, ◌∙◌, Bool, true, false, not, eqb, ltb, leb, if◌then◌else◌, List, [], ◌∷◌, length, replicate}
use Rattle.std.proofs.Common.{ℕ, ◌+◌, ◌≤◌, ◌<◌, arith, length-append, ⊎_elim}
use lib.ListN.{get_or-eq_default}
use Rattle.laws.proofs.Times.{less_or_not}
use Rattle.matching.specs.Graph.{Edge}
use Rattle.records.specs.Site.{Kind, N, C, B, E, T, J, G, Named, known, unknown, kind_of, byte_at, word_at, long_at, Complaint, Head, Reading, Next}
use Rattle.records.specs.Site.{onward, stopped, ORDER, CUT, EDGES, TIME, max_time, is_full, time_of, untimed, with_nodes, take_in}
use Rattle.records.specs.Site.{misplaced, is_n, cut_short, take_nodes, take_flag, take_budget, take_edge, take_time, take_join, take_go}
use Rattle.records.specs.Site.{take_body, judge_kind, judge_named, judge}

apart : {B : Type 0} {c : Complaint} {t : Reading} → stopped c ≡ onward t → B
apart {c = c} {t = t} e = absurd (omega (arith, zero_one e))
  where
    zero_one : stopped c ≡ onward t → ◌≡◌ {A = ℕ} 0 1
    zero_one e = cc

apart_named : {B : Type 0} {k : Kind} → known k ≡ unknown → B
apart_named {k = k} e = absurd (omega (arith, zero_one e))
  where
    zero_one : known k ≡ unknown → ◌≡◌ {A = ℕ} 0 1
    zero_one e = cc

alike : {s t : Reading} → onward s ≡ onward t → t ≡ s
alike e = cc

-- a test that would refuse has failed
passed : (b : Bool) (c : Complaint) (n : Next) (t : Reading) → (if b then stopped c else n) ≡ onward t → n ≡ onward t
passed true c n t e = apart e
passed false c n t e = e

tested : (b : Bool) (c : Complaint) (n : Next) (t : Reading) → (if b then stopped c else n) ≡ onward t → b ≡ false
tested true c n t e = apart e
tested false c n t e = refl

-- past the file's end stands no record
pub named_here : (file : List ℕ) (p : ℕ) (k : Kind) → known k ≡ kind_of (byte_at file p) → p < length file
unfolding kind_of
named_here file p k e = ⊎_elim (λ h. h) (λ h. apart_named (e ∙ ap kind_of (get_or-eq_default file 0 {n = p} h))) (less_or_not p (length file))

-- ---- one record

-- what every kind but N leaves
record Keeps (s t : Reading) : Type 0 where
  opened : t.head.opened ≡ s.head.opened
  nodes : t.head.nodes ≡ s.head.nodes
  edges : length s.edges ≤ length t.edges

keeps : (s t u : Reading) → onward u ≡ onward t → Keeps s u → Keeps s t
keeps s t u e k = rw (alike e) k

module _ (file : List ℕ) (s t : Reading) where
  -- a test that passed leaves what follows it; nothing of the head but its flags changes, and no edge is lost
  same_edges : (place : ℕ) (h : Head) (times : List ℕ) → h.opened ≡ s.head.opened → h.nodes ≡ s.head.nodes
      → onward (record { place = place; head = h; times = times; edges = s.edges }) ≡ onward t → Keeps s t
  same_edges place h times o n e =
      keeps s t (record { place = place; head = h; times = times; edges = s.edges }) e (record { opened = o; nodes = n; edges = omega arith })

  more_edges : (place : ℕ) (x : Edge) → onward (take_in place x s) ≡ onward t → Keeps s t
  more_edges place x e = keeps s t (take_in place x s) e (record { opened = refl; nodes = refl; edges = omega (arith, length-append s.edges (x ∷ [])) })

  flag_keeps : take_flag file s ≡ onward t → Keeps s t
  unfolding take_flag
  flag_keeps e = same_edges _ _ _ refl refl (passed _ _ _ t e)

  budget_keeps : take_budget file s ≡ onward t → Keeps s t
  unfolding take_budget
  budget_keeps e = same_edges _ _ _ refl refl e

  edge_keeps : take_edge file s ≡ onward t → Keeps s t
  unfolding take_edge
  edge_keeps e = more_edges _ _ (passed _ _ _ t e)

  time_keeps : take_time file s ≡ onward t → Keeps s t
  unfolding take_time
  time_keeps e =
      let v = word_at file (s.place + 1) in
      let a = passed (leb s.head.nodes v) TIME _ t e in
      let b = passed (ltb max_time (long_at file (s.place + 3))) TIME _ t a in
      same_edges _ _ _ refl refl (passed (not (eqb (time_of s.times v) untimed)) TIME _ t b)

  join_keeps : take_join file s ≡ onward t → Keeps s t
  unfolding take_join
  join_keeps e =
      let a = passed (is_full s) EDGES _ t e in
      let b = passed (eqb (time_of s.times (word_at file (s.place + 1))) untimed) TIME _ t a in
      more_edges _ _ (passed (eqb (time_of s.times (word_at file (s.place + 3))) untimed) TIME _ t b)

  go_keeps : take_go s ≡ onward t → Keeps s t
  unfolding take_go
  go_keeps e = same_edges _ _ _ refl refl e

  body_keeps : (k : Kind) → is_n k ≡ false → take_body k file s ≡ onward t → Keeps s t
  body_keeps N h e = cc
  body_keeps C h e = flag_keeps e
  body_keeps B h e = budget_keeps e
  body_keeps E h e = edge_keeps e
  body_keeps T h e = time_keeps e
  body_keeps J h e = join_keeps e
  body_keeps G h e = go_keeps e

-- N stands where none has stood, every other kind where one has
first_only : (gone opened : Bool) → (if gone then true else if opened then opened else false) ≡ false → opened ≡ false
first_only true o e = cc
first_only false true e = e
first_only false false e = refl

later_only : (gone opened again : Bool) → (if gone then true else if opened then again else true) ≡ false → opened ≡ true
later_only true o again e = cc
later_only false true again e = refl
later_only false false again e = sym e

unopened : (h : Head) → misplaced N h ≡ false → h.opened ≡ false
unfolding misplaced
unopened h e = first_only h.gone h.opened e

opened : (k : Kind) (h : Head) → is_n k ≡ false → misplaced k h ≡ false → h.opened ≡ true
unfolding misplaced
opened N h i e = cc
opened C h i e = later_only h.gone h.opened _ e
opened B h i e = later_only h.gone h.opened _ e
opened E h i e = later_only h.gone h.opened _ e
opened T h i e = later_only h.gone h.opened _ e
opened J h i e = later_only h.gone h.opened _ e
opened G h i e = later_only h.gone h.opened _ e

-- what a record that is taken leaves
pub record Goes (s t : Reading) : Type 0 where
  pub opened : t.head.opened ≡ true
  pub nodes : s.head.opened ≡ true → t.head.nodes ≡ s.head.nodes
  pub edges : length s.edges ≤ length t.edges

contrary : {B : Type 0} (b : Bool) → b ≡ false → b ≡ true → B
contrary b h i = absurd (omega (arith, zero_one h i))
  where
    zero_one : b ≡ false → b ≡ true → ◌≡◌ {A = ℕ} 0 1
    zero_one h i = cc

goes_as : (s t u : Reading) → onward u ≡ onward t → Goes s u → Goes s t
goes_as s t u e g = rw (alike e) g

module _ (file : List ℕ) (s t : Reading) where
  placed : (k : Kind) → judge_kind k file s ≡ onward t → misplaced k s.head ≡ false
  unfolding judge_kind
  placed k e = tested _ _ _ t e

  body_goes : (k : Kind) → judge_kind k file s ≡ onward t → take_body k file s ≡ onward t
  unfolding judge_kind
  body_goes k e =
      let whole = take_body k file s in
      passed (cut_short k file s.place) CUT whole t
      (passed (misplaced k s.head) ORDER (if cut_short k file s.place then stopped CUT else whole) t e)

  later_goes : (k : Kind) → is_n k ≡ false → judge_kind k file s ≡ onward t → Goes s t
  later_goes k i e =
      let b = body_keeps file s t k i (body_goes k e) in
      record { opened = b.opened ∙ opened k s.head i (placed k e); nodes = λ _. b.nodes; edges = b.edges }

  first_goes : take_nodes file s ≡ onward t → s.head.opened ≡ false → Goes s t
  unfolding take_nodes
  first_goes e h =
      let n = word_at file (s.place + 1) in
      let named : Reading = record { place = s.place + 3; head = with_nodes n s.head; times = replicate n untimed; edges = s.edges } in
      goes_as s t named (passed _ _ _ t e) (record { opened = refl; nodes = λ i. contrary _ h i; edges = omega arith })

  kind_goes : (k : Kind) → judge_kind k file s ≡ onward t → Goes s t
  kind_goes N e = first_goes (body_goes N e) (unopened s.head (placed N e))
  kind_goes C e = later_goes C refl e
  kind_goes B e = later_goes B refl e
  kind_goes E e = later_goes E refl e
  kind_goes T e = later_goes T refl e
  kind_goes J e = later_goes J refl e
  kind_goes G e = later_goes G refl e

  named_goes : (x : Named) → judge_named x file s ≡ onward t → Goes s t
  named_goes (known k) e = kind_goes k e
  named_goes unknown e = apart e

  pub goes : judge file s ≡ onward t → Goes s t
  unfolding judge
  goes e = named_goes (kind_of (byte_at file s.place)) e
