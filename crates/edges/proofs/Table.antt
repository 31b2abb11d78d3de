-- The two lists of the table of neighbours, whole.
use Rattle.std.proofs.Common.{◌≡◌, refl, sym, ap, ap₂, ◌∙◌, List, [], ◌∷◌, ◌++◌, map, ℕ, zero, suc, ◌+◌, ◌-◌, ◌<◌, ◌≤◌, length, get_or, take, drop, arith}
use native.Mathlib.Numerals.{add-one}
use lib.Seq.{take-add}
use Rattle.std.proofs.lemmas.List.{take-append-drop}
use Rattle.laws.specs.Lists.{range}
use Rattle.laws.specs.Times.{times}
use Rattle.edges.specs.Neighbours.{far_from, far_of, below, offsets_of, Neighbours, Begun}
use Rattle.edges.proofs.Counts.{below_none, below_next}

-- a list of which each entry is known
entries : (f : ℕ → ℕ) (from : ℕ) (l : List ℕ) → ((i : ℕ) → i < length l → get_or l i 0 ≡ f (from + i)) → l ≡ map f (range from (length l))
unfolding range
entries f from [] h = refl
entries f from (x ∷ l) h =
    let e : from + 0 ≡ from = omega arith in
    let first : x ≡ f from = h 0 (omega arith) ∙ ap f e in
    ap₂ (λ (y : ℕ) (ys : List ℕ). y ∷ ys) first (entries f (suc from) l (λ i k. h (suc i) (omega arith) ∙ ap f (omega arith)))

module _ (n : ℕ) (ends offsets before far : List ℕ) (b : Begun n ends offsets before far) where
  pub offsets_are : length offsets ≡ n + 1 → offsets ≡ offsets_of n ends
  offsets_are e =
      let all = entries (λ v. below v ends) 0 offsets (λ i h. b.begins i (omega arith) ∙ ap (λ v. below v ends) (omega arith)) in
      rw e at all

  module _ (t : Neighbours n ends offsets far) where
    row_at : (v : ℕ) → v < n → take (times v ends) (drop (below v ends) far) ≡ far_from v 0 ends
    row_at v h =
        let from : get_or offsets v 0 ≡ below v ends = b.begins v (omega arith) in
        let to : get_or offsets (v + 1) 0 ≡ below (suc v) ends = b.begins (v + 1) (omega arith) ∙ ap (λ (k : ℕ). below k ends) (add-one v) in
        let size : get_or offsets (v + 1) 0 - get_or offsets v 0 ≡ times v ends = omega (arith, from, to, below_next v ends) in
        rw (size, from) at (t.row v h)

    rows_to : (v : ℕ) → v ≤ n → take (below v ends) far ≡ far_of v ends
    unfolding far_of
    rows_to zero h = rw (below_none ends)
    rows_to (suc v) h =
        ap (λ (k : ℕ). take k far) (below_next v ends)
        ∙ take-add (below v ends) (times v ends) far
        ∙ ap₂ (λ (xs ys : List ℕ). xs ++ ys) (rows_to v (omega arith)) (row_at v (omega arith))

    pub far_is : far ≡ far_of n ends ++ drop (below n ends) before
    far_is = sym (take-append-drop (below n ends) far) ∙ ap₂ (λ (xs ys : List ℕ). xs ++ ys) (rows_to n (omega arith)) b.past

-- ---- worked by hand: edges 0-1 and 1-2

abbrev two_edges : List ℕ
two_edges = 0 ∷ 1 ∷ 1 ∷ 2 ∷ []

pub three_nodes : (offsets_of 3 two_edges ≡ 0 ∷ 1 ∷ 3 ∷ 4 ∷ []) × (far_of 3 two_edges ≡ 1 ∷ 0 ∷ 3 ∷ 2 ∷ [])
unfolding range below far_of far_from
three_nodes = (refl, refl)

-- node 2 is not there: the end at it has no place
pub two_nodes : (offsets_of 2 two_edges ≡ 0 ∷ 1 ∷ 3 ∷ []) × (far_of 2 two_edges ≡ 1 ∷ 0 ∷ 3 ∷ [])
unfolding range below far_of far_from
two_nodes = (refl, refl)

pub no_nodes : (offsets_of 0 two_edges ≡ 0 ∷ []) × (far_of 0 two_edges ≡ [])
unfolding range below far_of far_from
no_nodes = (refl, refl)
