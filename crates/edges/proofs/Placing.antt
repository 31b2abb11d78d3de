-- The table of neighbours while its entries are placed, from the last end to the first, and what it says of the graph.
use mathlib.Core.Path.{◌≡◌, refl, sym, ap, ap₂, ◌∙◌}
use mathlib.Core.Logic.{◌≢◌, ⊎_elim}
use mathlib.Core.List.{List, [], ◌∷◌}
use Prim.Native.Nat.{ℕ, suc, ◌+◌, ◌*◌, ◌-◌, ◌<◌, ◌≤◌}
use native.Mathlib.Numerals.{add-one}
use native.Mathlib.Omega.{arith}
use borrow.Author.Tests.{eq-eqb, ne_eqb}
use lib.ListN.{length, get_or, set, take, drop, drop_of_length-le, length-set}
use lib.Seq.{drop-cons, get_or-set_same, get_or-set_other, drop-set-lt, drop-set-add, take-set-le}
use Rattle.laws.specs.Times.{times}
use Rattle.laws.proofs.Times.{same_or_not, times_nil, less_or_not}
use Rattle.matching.specs.Graph.{Edge, Graph, beside}
use Rattle.numbers.specs.Edges.{ends_of}
use Rattle.steps.specs.Ends.{far_ends, far_ends_from}
use Rattle.edges.specs.Neighbours.{far_from, Neighbours, below, Begun, Counted, Summed, sum_to}
use Rattle.edges.proofs.Counts.{below_next, below_le, below_mono, times_drop, back, back_here, back_other, sum_below}

-- ---- a part of a list after a store

module _ {A : Type 0} (xs : List A) (o c k : ℕ) (v : A) where
  -- past the part
  pub part_past : o + c ≤ k → take c (drop o (set xs k v)) ≡ take c (drop o xs)
  part_past h =
      let far : k ≡ o + (k - o) = omega arith in
      rw (far, drop-set-add o xs (k - o) v) (take-set-le c (drop o xs) (k - o) v (omega arith))

  -- ahead of it
  pub part_ahead : k < o → take c (drop o (set xs k v)) ≡ take c (drop o xs)
  part_ahead h = ap (take c) (drop-set-lt o xs k v h)

  -- just before it
  pub part_front : (d : A) → suc k ≡ o → k < length xs → take (suc c) (drop k (set xs k v)) ≡ v ∷ take c (drop o xs)
  part_front d e h = rw (drop-cons (set xs k v) k d (rw (length-set xs k v) h), get_or-set_same xs k v d h, e, drop-set-lt o xs k v (omega arith))

-- ---- the far ends

far_here : (v p : ℕ) (xs : List ℕ) → far_from v p (v ∷ xs) ≡ beside p ∷ far_from v (suc p) xs
unfolding far_from
far_here v p xs = rw (eq-eqb v v refl)

far_later : (v p x : ℕ) (xs : List ℕ) → x ≢ v → far_from v p (x ∷ xs) ≡ far_from v (suc p) xs
unfolding far_from
far_later v p x xs d = rw (ne_eqb x v d)

even_beside : (e : ℕ) → beside (2 * e) ≡ 2 * e + 1
even_beside e = omega arith

odd_beside : (e : ℕ) → beside (suc (2 * e)) ≡ 2 * e
odd_beside e = omega arith

two_on : (e : ℕ) → suc (suc (2 * e)) ≡ 2 * suc e
two_on e = omega arith

far_ends_from_lem : (v e : ℕ) (xs : List Edge) → far_ends_from v e xs ≡ far_from v (2 * e) (ends_of xs)
unfolding far_ends_from far_from ends_of
far_ends_from_lem v e [] = refl
far_ends_from_lem v e (x ∷ xs) = ⊎_elim
    (λ a. ⊎_elim
    (λ b. rw (eq-eqb x.first v a, eq-eqb x.second v b, even_beside e, odd_beside e, two_on e, far_ends_from_lem v (suc e) xs))
    (λ b. rw (eq-eqb x.first v a, ne_eqb x.second v b, even_beside e, two_on e, far_ends_from_lem v (suc e) xs))
    (same_or_not x.second v))
    (λ a. ⊎_elim
    (λ b. rw (ne_eqb x.first v a, eq-eqb x.second v b, odd_beside e, two_on e, far_ends_from_lem v (suc e) xs))
    (λ b. rw (ne_eqb x.first v a, ne_eqb x.second v b, two_on e, far_ends_from_lem v (suc e) xs))
    (same_or_not x.second v))
    (same_or_not x.first v)

-- the definition's list is that of the ends lent
pub far_ends_lem : (G : Graph) {ends : List ℕ} → ends_of G.edges ≡ ends → (v : ℕ) → far_ends G v ≡ far_from v 0 ends
unfolding far_ends
far_ends_lem G he v = far_ends_from_lem v 0 G.edges ∙ ap (far_from v 0) he

-- ---- placing

pub record Placed (n p : ℕ) (ends offsets far : List ℕ) : Type 0 where
  pub reach : (v : ℕ) → v < n → get_or offsets v 0 + times v (drop p ends) ≡ below (suc v) ends
  pub last : get_or offsets n 0 ≡ below n ends
  pub row : (v : ℕ) → v < n → take (times v (drop p ends)) (drop (get_or offsets v 0) far) ≡ far_from v p (drop p ends)

pub placed_none : (n : ℕ) (ends counts offsets far : List ℕ) → Counted n ends counts → Summed n counts offsets → Placed n (length ends) ends offsets far
unfolding far_from
placed_none n ends counts offsets far c s = record {
  reach = λ v h. rw (nothing, times_nil v) (omega (arith, s.summed v h, more v h));
  last = s.last ∙ sum_below n ends counts c n (omega arith);
  row = λ v h. rw (nothing, times_nil v);
}
  where
    nothing : drop (length ends) ends ≡ []
    nothing = drop_of_length-le ends {i = length ends} (omega arith)

    more : (v : ℕ) → v < n → sum_to counts (v + 1) ≡ below (suc v) ends
    more v h = rw (add-one v) (sum_below n ends counts c (suc v) h)

module _ {n p : ℕ} {ends offsets far : List ℕ} (s : Placed n p ends offsets far) (q : ℕ) (e : suc q ≡ p) (h : q < length ends) where
  pub placed_skip : n ≤ get_or ends q 0 → Placed n q ends offsets far
  placed_skip l = record {
    reach = λ v k. rw (back_other ends p q e h v (λ r. omega arith)) (s.reach v k);
    last = s.last;
    row = λ v k.
        ap (λ (t : ℕ). take t (drop (get_or offsets v 0) far)) (back_other ends p q e h v (λ r. omega arith))
        ∙ s.row v k
        ∙ sym (later v (λ r. omega arith));
  }
    where
      later : (v : ℕ) → get_or ends q 0 ≢ v → far_from v q (drop q ends) ≡ far_from v p (drop p ends)
      later v d = rw (back ends p q e h, far_later v q (get_or ends q 0) (drop p ends) d, e)

  module _ (l : get_or ends q 0 < n) (lo : length offsets ≡ n + 1) (lf : length far ≡ length ends) where
    abbrev x : ℕ
    x = get_or ends q 0

    abbrev k : ℕ
    k = get_or offsets x 0 - 1

    -- the place is among those of the end's node
    pub placed_room : (below x ends < get_or offsets x 0) × (get_or offsets x 0 ≤ below (suc x) ends) × (get_or offsets x 0 ≤ length ends)
    placed_room =
        let a : below x ends < get_or offsets x 0 = omega (arith, s.reach x l, back_here ends p q e h, times_drop x q ends, below_next x ends) in
        (a, omega (arith, s.reach x l), omega (arith, s.reach x l, below_le (suc x) ends))

    abbrev offsets' : List ℕ
    offsets' = set offsets x k

    abbrev far' : List ℕ
    far' = set far k (beside q)

    -- past the places of all nodes nothing changes
    pub placed_past : (before : List ℕ) → drop (below n ends) far ≡ drop (below n ends) before → drop (below n ends) far' ≡ drop (below n ends) before
    placed_past before past =
        drop-set-lt (below n ends) far k (beside q) (omega (arith, placed_room, below_mono (suc x) n ends l)) ∙ past

    same : get_or offsets' x 0 ≡ k
    same = get_or-set_same offsets x k 0 (omega arith)

    other : (v : ℕ) → x ≢ v → get_or offsets' v 0 ≡ get_or offsets v 0
    other v d = get_or-set_other offsets x v k 0 (λ r. d (sym r))

    row_here : take (times x (drop q ends)) (drop (get_or offsets' x 0) far') ≡ far_from x q (drop q ends)
    row_here =
        ap₂ (λ (t o : ℕ). take t (drop o far')) (back_here ends p q e h) same
        ∙ part_front far (get_or offsets x 0) (times x (drop p ends)) k (beside q) 0 (omega (arith, placed_room)) (omega (arith, placed_room))
        ∙ ap (λ (r : List ℕ). beside q ∷ r) (s.row x l)
        ∙ sym (ap (far_from x q) (back ends p q e h) ∙ far_here x q (drop p ends) ∙ ap (λ (j : ℕ). beside q ∷ far_from x j (drop p ends)) e)

    row_other : (v : ℕ) → v < n → x ≢ v → take (times v (drop q ends)) (drop (get_or offsets' v 0) far') ≡ far_from v q (drop q ends)
    row_other v i d =
        ap₂ (λ (t o : ℕ). take t (drop o far')) (back_other ends p q e h v d) (other v d)
        ∙ ⊎_elim
        (λ g. part_past far (get_or offsets v 0) (times v (drop p ends)) k (beside q) (omega (arith, placed_room, s.reach v i, below_mono (suc v) x ends g)))
        (λ g. part_ahead far (get_or offsets v 0) (times v (drop p ends)) k (beside q)
        (omega (arith, placed_room, s.reach v i, below_next v ends, times_drop v p ends, below_mono (suc x) v ends (over v d g))))
        (less_or_not v x)
        ∙ s.row v i
        ∙ sym (ap (far_from v q) (back ends p q e h) ∙ far_later v q x (drop p ends) d ∙ ap (λ (j : ℕ). far_from v j (drop p ends)) e)
      where
        over : (v : ℕ) → x ≢ v → x ≤ v → suc x ≤ v
        over v d g = omega (arith, d)

    pub placed_more : Placed n q ends offsets' far'
    placed_more = record {
      reach = λ v i. ⊎_elim
          (λ g. rw (← g, same) (omega (arith, placed_room, s.reach x l, back_here ends p q e h)))
          (λ d. rw (other v d, back_other ends p q e h v d) (s.reach v i))
          (same_or_not x v);
      last = get_or-set_other offsets x n k 0 (λ r. omega arith) ∙ s.last;
      row = λ v i. ⊎_elim (λ g. rw (← g) row_here) (row_other v i) (same_or_not x v);
    }

-- all ends are placed
module _ {n : ℕ} {ends offsets far : List ℕ} (s : Placed n 0 ends offsets far) (lf : length far ≡ length ends) where
  start : (v : ℕ) → v < n → get_or offsets v 0 ≡ below v ends
  start v h = omega (arith, s.reach v h, below_next v ends)

  start_next : (v : ℕ) → v < n → get_or offsets (v + 1) 0 ≡ below (suc v) ends
  start_next v h = ⊎_elim
      (λ (k : v + 1 < n). rw (← add-one v) (start (v + 1) k))
      (λ k. let e : v + 1 ≡ n = omega arith in rw (← add-one v, e) s.last)
      (less_or_not (v + 1) n)

  pub placed_begun : (before : List ℕ) → drop (below n ends) far ≡ drop (below n ends) before → Begun n ends offsets before far
  placed_begun before past = record { begins = λ v h. ⊎_elim (λ k. start v k) (λ k. last v h k) (less_or_not v n); past = past }
    where
      last : (v : ℕ) → v ≤ n → n ≤ v → get_or offsets v 0 ≡ below v ends
      last v h k = let e : v ≡ n = omega arith in rw e s.last

  pub placed_all : Neighbours n ends offsets far
  placed_all = record {
    ordered = λ v h. omega (arith, start v h, start_next v h, below_next v ends);
    within = λ v h. omega (arith, start_next v h, below_le (suc v) ends);
    row = λ v h.
        let e : get_or offsets (v + 1) 0 - get_or offsets v 0 ≡ times v ends = omega (arith, start v h, start_next v h, below_next v ends) in
        rw e (s.row v h);
  }
