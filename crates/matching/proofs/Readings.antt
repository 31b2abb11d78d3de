-- That the definitions mean what their comments say: a matching has no edge twice; a group contains a node exactly if climbing from it
-- comes to the group in at most n moves; under MATE the edge that a mate names is matched; the pairs are the matched edges; the `least` of a list is one
-- of it. Nothing else rests on this file.
use mathlib.Core.Path.{◌≡◌, refl, sym, ap}
use mathlib.Core.Bool.{Bool, true, false, cond}
use mathlib.Core.Logic.{◌≢◌, ◌⊎◌, inl, inr, ⊎_elim}
use mathlib.Core.List.{List, [], ◌∷◌, map}
use Prim.Native.Nat.{ℕ, zero, suc, ◌/◌, ◌<◌, ◌≤◌, zero-le}
use native.Mathlib.Omega.{arith}
use lib.Dec.{T}
use lib.IntN.{ℤ, pos}
use lib.ListN.{length, get_or}
use Rattle.laws.specs.Integers.{lesser, least_from, least}
use lib.Signed.{lt_z}
use Rattle.laws.specs.Lists.{Some, EachPair, range}
use Rattle.matching.specs.Graph.{Graph, graph_of, edge_count, edges_from, first_of, second_of, weight_of, missing}
use Rattle.matching.specs.Matching.{Matching}
use Rattle.matching.specs.Certificate.{mate_of, parent_of, matched, pairs, climb, meets, contains, conditions, condition_number, MateHolds}
use Rattle.laws.proofs.Lists.{each_map, some_kept}
use Rattle.matching.proofs.Pairs.{parity, mated_even, mated_odd}
use Rattle.laws.proofs.Decides.{Decides, said, both, either, refuted, equal}

-- ---- a matching has no edge twice

each_pair_map : {R S : ℕ → ℕ → Type 0} → ((x y : ℕ) → R x y → S x y) → (l : List ℕ) → EachPair R l → EachPair S l
each_pair_map f [] h = tt
each_pair_map f (x ∷ xs) h = (each_map (f x) xs h.0, each_pair_map f xs h.1)

pub no_edge_twice : (G : Graph) (M : List ℕ) → Matching G M → EachPair (λ e f. e ≢ f) M
no_edge_twice G M m = each_pair_map (λ e f d q. d.first_first (ap (first_of G) (sym q))) M m.apart

-- ---- a group contains a node

-- after j moves, j below k, the parent is B, and none was missing on the way
pub record Met (parents : List ℕ) (k i B : ℕ) : Type 0 where
  pub moves : ℕ
  pub few : moves < k
  pub whole_way : (j : ℕ) → j ≤ moves → parent_of parents (climb parents j i) ≢ missing
  pub comes_to : parent_of parents (climb parents moves i) ≡ B

met_here_or_above : (parents : List ℕ) (k i B : ℕ) → Met parents (suc k) i B
    → (parent_of parents i ≢ missing) × ((parent_of parents i ≡ B) ⊎ Met parents k (parent_of parents i) B)
unfolding climb
met_here_or_above parents k i B h = (h.whole_way 0 zero-le, go h.moves h.few h.whole_way h.comes_to)
  where
    go : (m : ℕ) → m < suc k → ((j : ℕ) → j ≤ m → parent_of parents (climb parents j i) ≢ missing) → parent_of parents (climb parents m i) ≡ B
        → (parent_of parents i ≡ B) ⊎ Met parents k (parent_of parents i) B
    go zero l w e = inl e
    go (suc m) l w e = inr (record { moves = m; few = omega arith; whole_way = λ j g. w (suc j) (omega arith); comes_to = e })

met_from : (parents : List ℕ) (k i B : ℕ) → (parent_of parents i ≢ missing) × ((parent_of parents i ≡ B) ⊎ Met parents k (parent_of parents i) B)
    → Met parents (suc k) i B
unfolding climb
met_from parents k i B (h, inl e) = record { moves = 0; few = omega arith; whole_way = here; comes_to = e }
  where
    here : (j : ℕ) → j ≤ 0 → parent_of parents (climb parents j i) ≢ missing
    here zero g = h
    here (suc j) g = let no_way : ⊥ = omega arith in absurd no_way
met_from parents k i B (h, inr r) = record { moves = suc r.moves; few = omega (arith, r.few); whole_way = above; comes_to = r.comes_to }
  where
    above : (j : ℕ) → j ≤ suc r.moves → parent_of parents (climb parents j i) ≢ missing
    above zero g = h
    above (suc j) g = r.whole_way j (omega arith)

met_decided : (parents : List ℕ) (k i B : ℕ) → Decides (Met parents k i B) (meets parents k i B)
unfolding meets
met_decided parents zero i B = record { sound = λ t. absurd t; complete = λ h. let no_way : ⊥ = omega (arith, h.few) in absurd no_way }
met_decided parents (suc k) i B = said (met_from parents k i B) (met_here_or_above parents k i B)
    (both (refuted (equal (parent_of parents i) missing)) (either (equal (parent_of parents i) B) (met_decided parents k (parent_of parents i) B)))

pub contains_decided : (G : Graph) (parents : List ℕ) (B v : ℕ) → Decides (Met parents G.nodes v B) (contains G parents B v)
unfolding contains
contains_decided G parents B v = met_decided parents G.nodes v B

-- ---- matched edges

pub named_matched : (G : Graph) (mates : List ℕ) → MateHolds G mates → (v : ℕ) → v < G.nodes → mate_of mates v ≢ missing
    → T (matched G mates (mate_of mates v / 2))
named_matched G mates m v l h = ⊎_elim
    (λ z. absurd (h z))
    (λ b. ⊎_elim (λ p. (mated_even G mates v (mate_of mates v / 2) b p).0) (λ p. (mated_odd G mates v (mate_of mates v / 2) b p).0) (parity (mate_of mates v)))
    (m v l)

-- each matched edge is among the pairs; that the pairs are matched edges is `pairs_known`
pub matched_kept : (G : Graph) (mates : List ℕ) (e : ℕ) → e < edge_count G → T (matched G mates e) → Some (λ f. f ≡ e) (pairs G mates)
unfolding pairs
matched_kept G mates e l t = some_kept (λ f. f ≡ e) (matched G mates) e 0 (edge_count G) refl t zero-le (omega arith)

-- ---- the least is one of the list

least_from_lem : (a : ℤ) (l : List ℤ) → (least_from a l ≡ a) ⊎ Some (λ b. least_from a l ≡ b) l
unfolding least_from lesser
least_from_lem a [] = inl refl
least_from_lem a (b ∷ bs) = go (lt_z b a) (least_from_lem b bs) (least_from_lem a bs)
  where
    go : (t : Bool) → (least_from b bs ≡ b) ⊎ Some (λ c. least_from b bs ≡ c) bs → (least_from a bs ≡ a) ⊎ Some (λ c. least_from a bs ≡ c) bs
        → (least_from (cond t b a) bs ≡ a) ⊎ Some (λ c. least_from (cond t b a) bs ≡ c) (b ∷ bs)
    go true f h = inr f
    go false f h = ⊎_elim (λ e. inl e) (λ r. inr (inr r)) h

pub least_is : (x : ℤ) (xs : List ℤ) → Some (λ b. least (x ∷ xs) ≡ b) (x ∷ xs)
unfolding least
least_is x xs = least_from_lem x xs

-- ---- edges lent as three lists

abbrev lent : ℕ → List ℕ → List ℕ → List ℤ → Graph
lent n xs ys zs = graph_of n (edges_from xs ys zs)

pub of_slices : (n : ℕ) (xs ys : List ℕ) (zs : List ℤ) (e : ℕ) → length xs ≡ length ys → length ys ≡ length zs
    → (edge_count (lent n xs ys zs) ≡ length xs)
    × (first_of (lent n xs ys zs) e ≡ get_or xs e 0) × (second_of (lent n xs ys zs) e ≡ get_or ys e 0) × (weight_of (lent n xs ys zs) e ≡ get_or zs e (pos 0))
unfolding first_of second_of weight_of
of_slices n [] [] [] e p q = (refl, refl, refl, refl)
of_slices n [] [] (z ∷ zs) e p q = let no_way : ⊥ = omega arith in absurd no_way
of_slices n [] (y ∷ ys) zs e p q = let no_way : ⊥ = omega arith in absurd no_way
of_slices n (x ∷ xs) [] zs e p q = let no_way : ⊥ = omega arith in absurd no_way
of_slices n (x ∷ xs) (y ∷ ys) [] e p q = let no_way : ⊥ = omega arith in absurd no_way
of_slices n (x ∷ xs) (y ∷ ys) (z ∷ zs) zero p q = (ap suc (of_slices n xs ys zs 0 (omega arith) (omega arith)).0, refl, refl, refl)
of_slices n (x ∷ xs) (y ∷ ys) (z ∷ zs) (suc e) p q =
    let r = of_slices n xs ys zs e (omega arith) (omega arith) in (ap suc r.0, r.1, r.2, r.3)

-- ---- the conditions are tested in the order of their numbers, and none is left out

pub in_order : map condition_number conditions ≡ range 11 7
unfolding range
in_order = refl
