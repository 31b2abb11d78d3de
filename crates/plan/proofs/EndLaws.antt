-- The ends of the edges that three lists describe, as they are laid edge after edge.
use mathlib.Core.Path.{◌≡◌, refl, sym, ap, ◌∙◌}
use mathlib.Core.List.{List, [], ◌∷◌, ◌++◌}
use Prim.Native.Nat.{ℕ, zero, suc, ◌+◌, ◌*◌, ◌<◌, ◌≤◌}
use native.Mathlib.Omega.{arith}
use lib.IntN.{ℤ}
use lib.ListN.{length, get_or, set, take, drop}
use Rattle.laws.proofs.Windows.{write_more, write_all}
use Rattle.matching.specs.Graph.{Graph, graph_of, edge_count, Edge, edge, edges_from}
use Rattle.numbers.specs.Edges.{ends_of}
use Rattle.edges.specs.Views.{edges_over}
use Rattle.numbers.proofs.EdgeLaws.{first_next, second_next, length_ends_of}
use Rattle.certificate.proofs.IntakeLaws.{edges_length}

first_end : (xs ys : List ℕ) (zs : List ℤ) (e : ℕ) → length ys ≡ length xs → length zs ≡ length xs → e < length xs
    → get_or xs e 0 ≡ get_or (ends_of (edges_from xs ys zs)) (2 * e) 0
unfolding ends_of
first_end [] ys zs e p q h = let no_way : ⊥ = omega arith in absurd no_way
first_end (x ∷ xs) [] zs e p q h = let no_way : ⊥ = omega arith in absurd no_way
first_end (x ∷ xs) (y ∷ ys) [] e p q h = let no_way : ⊥ = omega arith in absurd no_way
first_end (x ∷ xs) (y ∷ ys) (z ∷ zs) zero p q h = refl
first_end (x ∷ xs) (y ∷ ys) (z ∷ zs) (suc e) p q h = rw (first_next e) (first_end xs ys zs e (omega arith) (omega arith) (omega arith))

second_end : (xs ys : List ℕ) (zs : List ℤ) (e : ℕ) → length ys ≡ length xs → length zs ≡ length xs → e < length xs
    → get_or ys e 0 ≡ get_or (ends_of (edges_from xs ys zs)) (2 * e + 1) 0
unfolding ends_of
second_end [] ys zs e p q h = let no_way : ⊥ = omega arith in absurd no_way
second_end (x ∷ xs) [] zs e p q h = let no_way : ⊥ = omega arith in absurd no_way
second_end (x ∷ xs) (y ∷ ys) [] e p q h = let no_way : ⊥ = omega arith in absurd no_way
second_end (x ∷ xs) (y ∷ ys) (z ∷ zs) zero p q h = refl
second_end (x ∷ xs) (y ∷ ys) (z ∷ zs) (suc e) p q h = rw (second_next e) (second_end xs ys zs e (omega arith) (omega arith) (omega arith))

-- the edges are those of their ends and the third list
over_lent : (xs ys : List ℕ) (zs : List ℤ) → length ys ≡ length xs → length zs ≡ length xs
    → edges_over (ends_of (edges_from xs ys zs)) zs ≡ edges_from xs ys zs
unfolding ends_of edges_over
over_lent [] ys zs p q = refl
over_lent (x ∷ xs) [] zs p q = let no_way : ⊥ = omega arith in absurd no_way
over_lent (x ∷ xs) (y ∷ ys) [] p q = let no_way : ⊥ = omega arith in absurd no_way
over_lent (x ∷ xs) (y ∷ ys) (z ∷ zs) p q = ap {B = List Edge} (λ r. edge x y z ∷ r) (over_lent xs ys zs (omega arith) (omega arith))

-- a list d of which the ends of e edges are laid
abbrev pub laid : (d xs ys : List ℕ) → (zs : List ℤ) → (e : ℕ) → List ℕ
laid d xs ys zs e = take (2 * e) (ends_of (edges_from xs ys zs)) ++ drop (2 * e) d

module _ (d xs ys : List ℕ) (p : length ys ≡ length xs) (l : length d ≡ 2 * length xs) where
  module _ (zs : List ℤ) (q : length zs ≡ length xs) where
    all_ends : length (ends_of (edges_from xs ys zs)) ≡ 2 * length xs
    all_ends = length_ends_of (edges_from xs ys zs) ∙ ap (λ (k : ℕ). 2 * k) (edges_length xs ys zs p q)

    pub laid_more : (r : List ℕ) (e : ℕ) → e < length xs → r ≡ laid d xs ys zs e
        → set (set r (2 * e) (get_or xs e 0)) (2 * e + 1) (get_or ys e 0) ≡ laid d xs ys zs (e + 1)
    laid_more r e h w =
        let k : 2 * (e + 1) ≡ 2 * e + 1 + 1 = omega arith in
        rw (
          w,
          k,
          first_end xs ys zs e p q h,
          second_end xs ys zs e p q h,
          write_more d (ends_of (edges_from xs ys zs)) (2 * e) 0 (omega arith) (omega (arith, all_ends)),
          write_more d (ends_of (edges_from xs ys zs)) (2 * e + 1) 0 (omega arith) (omega (arith, all_ends)),
        )

    pub laid_all : (r : List ℕ) (e : ℕ) → length xs ≤ e → r ≡ laid d xs ys zs e → edges_over r zs ≡ edges_from xs ys zs
    laid_all r e h w =
        rw (w, write_all d (ends_of (edges_from xs ys zs)) (2 * e) (omega arith) (omega (arith, all_ends))) (over_lent xs ys zs p q)

pub count_made : (n : ℕ) (xs ys ends : List ℕ) (zs : List ℤ) (G : Graph) → G ≡ graph_of n (edges_over ends zs)
    → edges_over ends zs ≡ edges_from xs ys zs → length ys ≡ length xs → length zs ≡ length xs → edge_count G ≡ length xs
count_made n xs ys ends zs G e o p q = rw (e, o) (edges_length xs ys zs p q)
