-- Laws of the links: an edge inserted by the place of its group, and the places after it.
use Rattle.std.specs.Prelude.{if◌then◌else◌}
use mathlib.Core.Path.{◌≡◌, refl, sym, ap, ◌∙◌}
use mathlib.Core.Bool.{Bool, true, false}
use mathlib.Core.Logic.{◌≢◌, ⊎_elim}
use mathlib.Core.List.{List, [], ◌∷◌, ◌++◌, map}
use Prim.Native.Nat.{ℕ, suc, ◌+◌, ◌*◌, ◌-◌, ◌<◌, ◌≤◌}
use native.Mathlib.Nat.{sub-zero}
use native.Mathlib.Numerals.{add-one}
use native.Mathlib.Omega.{arith}
use borrow.Author.Tests.{eq-eqb, ne_eqb, le-leb, lt-leb}
use lib.Dec.{leb}
use lib.IntN.{ℤ}
use lib.ListN.{length, get_or, set, take, replicate, length-take, length-append, length-set, length-replicate, get_or-replicate}
use lib.Seq.{get_or-set_same, get_or-set_other, get_or-take, take-suc-set}
use Rattle.laws.specs.Run.{Run, ok, fault, and_then, ◌>>=◌, must, at, position, position_from}
use Rattle.laws.proofs.Runs.{not_ok, ok_inj}
use Rattle.laws.proofs.Times.{same_or_not}
use Rattle.laws.proofs.Windows.{take_set}
use Rattle.matching.specs.Graph.{Graph, missing}
use Rattle.steps.specs.Ends.{present, tighter}
use Rattle.steps.specs.State.{State}
use Rattle.steps.specs.Add.{Link, insert_link, consider_to}
use Rattle.grouping.specs.Links.{link, paired, Seated, LinksFit, insert_fit}
use Rattle.grouping.proofs.Positions.{position_here, position_later, position_bound, position_other, position_new}

-- ---- links as two lists

paired_length : (js es : List ℕ) → length es ≡ length js → length (paired js es) ≡ length js
unfolding paired
paired_length [] es l = refl
paired_length (j ∷ js) [] l = absurd (omega (arith, l))
paired_length (j ∷ js) (e ∷ es) l = ap suc (paired_length js es (omega (arith, l)))

pub paired_edges : (js es : List ℕ) → length es ≡ length js → es ≡ map (λ (x : Link). x.edge) (paired js es)
unfolding paired
paired_edges [] [] l = refl
paired_edges [] (e ∷ es) l = absurd (omega (arith, l))
paired_edges (j ∷ js) [] l = absurd (omega (arith, l))
paired_edges (j ∷ js) (e ∷ es) l = ap (λ (r : List ℕ). e ∷ r) (paired_edges js es (omega (arith, l)))

pub none_paired : paired [] [] ≡ []
unfolding paired
none_paired = refl

paired_snoc : (js es : List ℕ) (j e : ℕ) → length es ≡ length js → paired js es ++ (link j e ∷ []) ≡ paired (js ++ (j ∷ [])) (es ++ (e ∷ []))
unfolding paired
paired_snoc [] [] j e l = refl
paired_snoc [] (y ∷ es) j e l = absurd (omega (arith, l))
paired_snoc (x ∷ js) [] j e l = absurd (omega (arith, l))
paired_snoc (x ∷ js) (y ∷ es) j e l = ap (λ (r : List Link). link x y ∷ r) (paired_snoc js es j e (omega (arith, l)))

-- ---- a link inserted

module _ (G : Graph) (duals : List ℤ) (j e : ℕ) where
  insert_new : (i : ℕ) (js es : List ℕ) → length es ≡ length js → position_from i j js ≡ fault
      → insert_link G duals j e (paired js es) ≡ ok (paired js es ++ (link j e ∷ []))
  unfolding insert_link paired
  insert_new i [] es l q = refl
  insert_new i (x ∷ js) [] l q = absurd (omega (arith, l))
  insert_new i (x ∷ js) (y ∷ es) l q = ⊎_elim
      (λ s. not_ok (sym q ∙ position_here i j x js s))
      (λ d. rw (ne_eqb x j d, insert_new (suc i) js es (omega (arith, l)) (sym (position_later i j x js d) ∙ q)))
      (same_or_not x j)

  -- the edges where e may have taken place k
  abbrev taken : Run Bool → (js es : List ℕ) → (k : ℕ) → Run (List Link)
  taken t js es k = and_then t (λ less. ok (paired js (if less then set es k e else es)))

  insert_in : (i : ℕ) (js es : List ℕ) (p : ℕ) → length es ≡ length js → position_from i j js ≡ ok p
      → insert_link G duals j e (paired js es) ≡ taken (tighter G duals e (get_or es (p - i) 0)) js es (p - i)
  unfolding insert_link paired position_from
  insert_in i [] es p l q = not_ok q
  insert_in i (x ∷ js) [] p l q = absurd (omega (arith, l))
  insert_in i (x ∷ js) (y ∷ es) p l q = ⊎_elim here (later (insert_in (suc i) js es p (omega (arith, l)))) (same_or_not x j)
    where
      at_front : x ≡ j → (t : Run Bool) → (t >>= λ less. ok (if less then link j e ∷ paired js es else link x y ∷ paired js es)) ≡ taken t (x ∷ js) (y ∷ es) 0
      at_front s fault = refl
      at_front s (ok true) = rw s refl
      at_front s (ok false) = refl

      here : x ≡ j → insert_link G duals j e (paired (x ∷ js) (y ∷ es)) ≡ taken (tighter G duals e (get_or (y ∷ es) (p - i) 0)) (x ∷ js) (y ∷ es) (p - i)
      here s =
          let r : p - i ≡ 0 = omega (arith, ok_inj (sym (position_here i j x js s) ∙ q)) in
          rw (eq-eqb x j s, r) (at_front s (tighter G duals e y))

      on : (t : Run Bool) (k : ℕ) → (taken t js es k >>= λ ys. ok (link x y ∷ ys)) ≡ taken t (x ∷ js) (y ∷ es) (suc k)
      on fault k = refl
      on (ok true) k = refl
      on (ok false) k = refl

      later : (position_from (suc i) j js ≡ ok p → insert_link G duals j e (paired js es)
          ≡ taken (tighter G duals e (get_or es (p - suc i) 0)) js es (p - suc i))
          → x ≢ j → insert_link G duals j e (paired (x ∷ js) (y ∷ es)) ≡ taken (tighter G duals e (get_or (y ∷ es) (p - i) 0)) (x ∷ js) (y ∷ es) (p - i)
      later rest d =
          let g = sym (position_later i j x js d) ∙ q in
          let r : p - i ≡ suc (p - suc i) = omega (arith, position_bound (suc i) j js p g) in
          rw (ne_eqb x j d, r, rest g) (on (tighter G duals e (get_or es (p - suc i) 0)) (p - suc i))

  module _ (js es : List ℕ) (l : length es ≡ length js) where
    insert_held : (p : ℕ) → position j js ≡ ok p → length js ≤ G.nodes
        → insert_fit G duals j e (paired js es) ≡ taken (tighter G duals e (get_or es p 0)) js es p
    unfolding insert_fit
    insert_held p q h = ap (λ (r : Run (List Link)). r >>= λ links. must (leb (length links) G.nodes)
        >>= λ _. ok links) (rw (sub-zero p) at (insert_in 0 js es p l q)) ∙ go (tighter G duals e (get_or es p 0))
      where
        room : (es' : List ℕ) → length es' ≡ length js → leb (length (paired js es')) G.nodes ≡ true
        room es' m = le-leb (length (paired js es')) G.nodes (rw (paired_length js es' m) h)

        go : (t : Run Bool) → (taken t js es p >>= λ links. must (leb (length links) G.nodes) >>= λ _. ok links) ≡ taken t js es p
        go fault = refl
        go (ok true) = rw (room (set es p e) (length-set es p e ∙ l))
        go (ok false) = rw (room es l)

    insert_fresh : position j js ≡ fault → length js < G.nodes → insert_fit G duals j e (paired js es) ≡ ok (paired (js ++ (j ∷ [])) (es ++ (e ∷ [])))
    unfolding insert_fit
    insert_fresh q h = rw (insert_new 0 js es l q, room) (ap ok (paired_snoc js es j e l))
      where
        room : leb (length (paired js es ++ (link j e ∷ []))) G.nodes ≡ true
        room = le-leb (length (paired js es ++ (link j e ∷ []))) G.nodes
            (rw (length-append (paired js es) (link j e ∷ []), paired_length js es l) (omega arith))

    insert_full : position j js ≡ fault → G.nodes ≤ length js → insert_fit G duals j e (paired js es) ≡ fault
    unfolding insert_fit
    insert_full q h = rw (insert_new 0 js es l q, room)
      where
        room : leb (length (paired js es ++ (link j e ∷ []))) G.nodes ≡ false
        room = lt-leb (length (paired js es ++ (link j e ∷ []))) G.nodes
            (rw (length-append (paired js es) (link j e ∷ []), paired_length js es l) (omega arith))

-- ---- places

present_ok : (x : ℕ) → x < missing → present x ≡ ok x
present_ok x h = rw (ne_eqb x missing (λ q. omega arith))

module _ (n : ℕ) (seat js : List ℕ) (s : Seated n seat js) (small : length js ≤ 512) (j : ℕ) (hj : j < 2 * n) where
  seat_found : get_or seat j 0 < length js → position j js ≡ ok (get_or seat j 0)
  seat_found h = s.seats j hj ∙ present_ok (get_or seat j 0) (omega arith)

  seat_none : length js ≤ get_or seat j 0 → position j js ≡ fault
  seat_none h = ⊎_elim
      (λ q. s.seats j hj ∙ rw (eq-eqb (get_or seat j 0) missing q))
      (λ d.
      let b = position_bound 0 j js (get_or seat j 0) (s.seats j hj ∙ rw (ne_eqb (get_or seat j 0) missing d)) in
      let no_way : ⊥ = omega (arith, b) in absurd no_way)
      (same_or_not (get_or seat j 0) missing)

  seated_new : position j js ≡ fault → length seat ≡ 2 * n → Seated n (set seat j (length js)) (js ++ (j ∷ []))
  seated_new q l = record { seats = each }
    where
      each : (i : ℕ) → i < 2 * n → position i (js ++ (j ∷ [])) ≡ present (get_or (set seat j (length js)) i 0)
      each i h = ⊎_elim here there (same_or_not i j)
        where
          here : i ≡ j → position i (js ++ (j ∷ [])) ≡ present (get_or (set seat j (length js)) i 0)
          here g = rw (g, get_or-set_same seat j (length js) 0 (omega arith), present_ok (length js) (omega arith)) (position_new 0 j js q
              ∙ ap ok (from_none (length js)))
            where
              from_none : (k : ℕ) → 0 + k ≡ k
              from_none k = omega arith

          there : i ≢ j → position i (js ++ (j ∷ [])) ≡ present (get_or (set seat j (length js)) i 0)
          there d = position_other 0 i j js (λ r. d (sym r)) ∙ s.seats i h ∙ ap present (sym (get_or-set_other seat j i (length js) 0 d))

-- no link yet, and no place
seated_none : (n : ℕ) (seat : List ℕ) → ((j : ℕ) → j < 2 * n → get_or seat j 0 ≡ missing) → Seated n seat []
unfolding position_from
seated_none n seat h = record { seats = λ j l. rw (h j l) }

module _ (n : ℕ) (edges towards seat : List ℕ) where
  -- places of a list that was filled
  pub fit_none : (old : List ℕ) → n ≤ 512 → length edges ≡ n → length towards ≡ n → length old ≡ 2 * n → seat ≡ replicate (length old) missing
      → LinksFit n edges towards seat 0
  fit_none old h a b l e = record {
    small = h;
    within = omega arith;
    edges_room = a;
    towards_room = b;
    seat_room = rw (e, length-replicate (length old) missing) l;
    seated = seated_none n seat (λ j k. rw e (get_or-replicate (length old) j missing 0 (omega (arith, l))));
  }

  module _ (len : ℕ) (f : LinksFit n edges towards seat len) where
    both : length (take len edges) ≡ length (take len towards)
    both = rw (length-take len edges, length-take len towards, f.edges_room, f.towards_room) refl

    pub edges_are : take len edges ≡ map (λ (x : Link). x.edge) (paired (take len towards) (take len edges))
    edges_are = paired_edges (take len towards) (take len edges) both

    pub links_few : length (paired (take len towards) (take len edges)) ≤ n
    links_few = rw (paired_length (take len towards) (take len edges) both, length-take len towards) (omega (arith, f.within))

-- ---- the group's label

module _ (G : Graph) (s : State) (j e : ℕ) (links : List Link) where
  pub label_out : at s.labelling.labels j ≡ fault → consider_to G s j e links ≡ fault
  unfolding consider_to
  label_out q = rw q

  label_one : (l : ℕ) → at s.labelling.labels j ≡ ok l → l ≡ 1 → consider_to G s j e links ≡ insert_fit G s.pairing.duals j e links
  unfolding consider_to insert_fit
  label_one l q h = rw (q, eq-eqb l 1 h)

  pub label_other : (l : ℕ) → at s.labelling.labels j ≡ ok l → l ≢ 1 → length links ≤ G.nodes → consider_to G s j e links ≡ ok links
  unfolding consider_to
  label_other l q d h = rw (q, ne_eqb l 1 d, le-leb (length links) G.nodes h)

pub ruleset labels = (label_out)

-- ---- each way through an edge to a label-1 group, where the links are the first len of the lists

module _ (G : Graph) (s : State) (j e : ℕ) {l n len : ℕ} {edges towards seat : List ℕ} (same : n
    ≡ G.nodes) (f : LinksFit n edges towards seat len) (hj : j < 2 * G.nodes)
    (q : at s.labelling.labels j ≡ ok l) (one : l ≡ 1) where
  inserts : consider_to G s j e (paired (take len towards) (take len edges)) ≡ insert_fit G s.pairing.duals j e (paired (take len towards) (take len edges))
  inserts = label_one G s j e (paired (take len towards) (take len edges)) l q one

  towards_length : length (take len towards) ≡ len
  towards_length = length-take len towards ∙ omega (arith, f.within, f.towards_room)

  edges_length : length (take len edges) ≡ len
  edges_length = length-take len edges ∙ omega (arith, f.within, f.edges_room)

  lengths : length (take len edges) ≡ length (take len towards)
  lengths = edges_length ∙ sym towards_length

  few : length (take len towards) ≤ 512
  few = omega (arith, towards_length, f.within, f.small)

  within : length (take len towards) ≤ G.nodes
  within = omega (arith, towards_length, f.within, same)

  in_range : j < 2 * n
  in_range = omega (arith, same)

  module _ (h : get_or seat j 0 < len) where
    held : insert_fit G s.pairing.duals j e (paired (take len towards) (take len edges))
        ≡ and_then (tighter G s.pairing.duals e (get_or edges (get_or seat j 0) 0))
        (λ less. ok (paired (take len towards) (if less then set (take len edges) (get_or seat j 0) e else take len edges)))
    held = rw (get_or-take len edges (get_or seat j 0) 0 h) at
        (insert_held G s.pairing.duals j e (take len towards) (take len edges) lengths (get_or seat j 0)
        (seat_found n seat (take len towards) f.seated few j in_range (omega (arith, towards_length))) within)

    pub insert_lost : tighter G s.pairing.duals e (get_or edges (get_or seat j 0) 0) ≡ fault
        → consider_to G s j e (paired (take len towards) (take len edges)) ≡ fault
    insert_lost t = inserts ∙ held ∙ rw t

    pub insert_tighter : tighter G s.pairing.duals e (get_or edges (get_or seat j 0) 0) ≡ ok true
        → consider_to G s j e (paired (take len towards) (take len edges)) ≡ ok (paired (take len towards) (take len (set edges (get_or seat j 0) e)))
    insert_tighter t = inserts ∙ held ∙ rw t (ap (λ (es : List ℕ). ok (paired (take len towards) es)) (sym (take_set len edges (get_or seat j 0) e)))

    pub insert_looser : tighter G s.pairing.duals e (get_or edges (get_or seat j 0) 0) ≡ ok false
        → consider_to G s j e (paired (take len towards) (take len edges)) ≡ ok (paired (take len towards) (take len edges))
    insert_looser t = inserts ∙ held ∙ rw t

  module _ (h : len ≤ get_or seat j 0) where
    lacking : position j (take len towards) ≡ fault
    lacking = seat_none n seat (take len towards) f.seated few j in_range (omega (arith, towards_length))

    pub insert_over : n ≤ len → consider_to G s j e (paired (take len towards) (take len edges)) ≡ fault
    insert_over k = inserts ∙ insert_full G s.pairing.duals j e (take len towards) (take len edges) lengths lacking (omega (arith, towards_length, same))

    module _ (k : len < n) where
      towards_more : take (len + 1) (set towards len j) ≡ take len towards ++ (j ∷ [])
      towards_more = rw (add-one len) (take-suc-set towards len j (omega (arith, f.towards_room)))

      edges_more : take (len + 1) (set edges len e) ≡ take len edges ++ (e ∷ [])
      edges_more = rw (add-one len) (take-suc-set edges len e (omega (arith, f.edges_room)))

      pub insert_more : consider_to G s j e (paired (take len towards) (take len edges))
          ≡ ok (paired (take (len + 1) (set towards len j)) (take (len + 1) (set edges len e)))
      insert_more = inserts
          ∙ rw (towards_more, edges_more) (insert_fresh G s.pairing.duals j e (take len towards) (take len edges)
          lengths lacking (omega (arith, towards_length, same)))

      pub fit_more : LinksFit n (set edges len e) (set towards len j) (set seat j len) (len + 1)
      fit_more = record {
        small = f.small;
        within = omega (arith, k);
        edges_room = length-set edges len e ∙ f.edges_room;
        towards_room = length-set towards len j ∙ f.towards_room;
        seat_room = length-set seat j len ∙ f.seat_room;
        seated = rw towards_more
            (rw towards_length at (seated_new n seat (take len towards) f.seated few j in_range lacking f.seat_room));
      }
