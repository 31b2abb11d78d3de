-- The matching that the mates describe: it is a matching, whatever the mates are (`pairs_matching`), and where MATE holds it reaches
-- each node that has a mate (`mated_reached`).
use mathlib.Core.Path.{◌≡◌, refl, ap}
use mathlib.Core.List.{List}
use mathlib.Core.Logic.{◌⊎◌, inl, inr, ⊎_elim}
use Prim.Native.Nat.{ℕ, zero, suc, ◌+◌, ◌*◌, ◌/◌, ◌%◌, ◌<◌, zero-le}
use native.Mathlib.Omega.{arith}
use borrow.Author.Tests.{eq-eqb, ne_eqb}
use lib.Dec.{T, eqb, eqb→eq}
use lib.Ieee.Fits.{and_l, and_r, and_i, eq→eqb}
use Rattle.laws.specs.Lists.{Each, range}
use Rattle.laws.proofs.Lists.{each_map, each_range, each_keep, some_kept, pairs_kept}
use Rattle.matching.specs.Graph.{Graph, edge_count, first_of, second_of, beside, node_at}
use Rattle.matching.specs.Matching.{Apart, Matching}
use Rattle.matching.proofs.Packing.{AtEnd, Reached}
use Rattle.matching.specs.Certificate.{mate_of, matched, pairs, NamedBack}

-- a matched edge: each of its nodes has the end at the other as mate
matched_first : (G : Graph) (mates : List ℕ) (e : ℕ) → T (matched G mates e) → mate_of mates (first_of G e) ≡ 2 * e + 1
unfolding matched
matched_first G mates e t =
    eqb→eq (mate_of mates (first_of G e)) (2 * e + 1) (and_l (eqb (mate_of mates (first_of G e)) (2 * e + 1)) (eqb (mate_of mates (second_of G e)) (2 * e)) t)

matched_second : (G : Graph) (mates : List ℕ) (e : ℕ) → T (matched G mates e) → mate_of mates (second_of G e) ≡ 2 * e
unfolding matched
matched_second G mates e t =
    eqb→eq (mate_of mates (second_of G e)) (2 * e) (and_r (eqb (mate_of mates (first_of G e)) (2 * e + 1)) (eqb (mate_of mates (second_of G e)) (2 * e)) t)

is_matched : (G : Graph) (mates : List ℕ) (e : ℕ) → mate_of mates (first_of G e) ≡ 2 * e + 1 → mate_of mates (second_of G e) ≡ 2 * e → T (matched G mates e)
unfolding matched
is_matched G mates e p q = and_i (eqb (mate_of mates (first_of G e)) (2 * e + 1)) (eqb (mate_of mates (second_of G e)) (2 * e)) (eq→eqb p) (eq→eqb q)

-- two matched edges have no common node
matched_apart : (G : Graph) (mates : List ℕ) (e f : ℕ) → T (matched G mates e) → T (matched G mates f) → e < f → Apart G e f
matched_apart G mates e f s t h =
    let a = matched_first G mates e s in
    let b = matched_second G mates e s in
    let c = matched_first G mates f t in
    let d = matched_second G mates f t in
    record {
      first_first = λ q. omega (arith, ap (mate_of mates) q);
      first_second = λ q. omega (arith, ap (mate_of mates) q);
      second_first = λ q. omega (arith, ap (mate_of mates) q);
      second_second = λ q. omega (arith, ap (mate_of mates) q);
    }

pub pairs_known : (G : Graph) (mates : List ℕ) → Each (λ e. (e < edge_count G) × T (matched G mates e)) (pairs G mates)
unfolding pairs
pairs_known G mates = each_keep (matched G mates) (λ e l t. (l, t)) (range 0 (edge_count G)) (each_range 0 (edge_count G) (λ e l m. omega arith))

pub pairs_matching : (G : Graph) (mates : List ℕ) → Matching G (pairs G mates)
unfolding pairs
pairs_matching G mates = record {
  known = each_map (λ e h. h.0) (pairs G mates) (pairs_known G mates);
  apart = pairs_kept (matched G mates) (λ e f h s t. matched_apart G mates e f s t h) 0 (edge_count G);
}

-- what is beside an end and at it, by the end's parity
even_end : (G : Graph) (e : ℕ) → (beside (2 * e) ≡ 2 * e + 1) × (node_at G (2 * e) ≡ first_of G e)
unfolding node_at
even_end G e = rw (ne_eqb ((2 * e) % 2) 1 (λ q. omega arith)) (omega arith, ap (first_of G) (omega arith))

odd_end : (G : Graph) (e : ℕ) → (beside (2 * e + 1) ≡ 2 * e) × (node_at G (2 * e + 1) ≡ second_of G e)
unfolding node_at
odd_end G e = rw (eq-eqb ((2 * e + 1) % 2) 1 (omega arith)) (omega arith, ap (second_of G) (omega arith))

-- an end below 2m is one of the two of an edge below m
pub parity : (p : ℕ) → (p ≡ 2 * (p / 2)) ⊎ (p ≡ 2 * (p / 2) + 1)
parity p = go (p % 2) refl
  where
    go : (r : ℕ) → p % 2 ≡ r → (p ≡ 2 * (p / 2)) ⊎ (p ≡ 2 * (p / 2) + 1)
    go zero e = inl (omega arith)
    go (suc zero) e = inr (omega arith)
    go (suc (suc r)) e = let no_way : ⊥ = omega arith in absurd no_way

-- the edge whose end is v's mate
pub mated_even : (G : Graph) (mates : List ℕ) (v e : ℕ) → NamedBack G mates v → mate_of mates v ≡ 2 * e → T (matched G mates e) × (v ≡ second_of G e)
mated_even G mates v e b p =
    let at : v ≡ second_of G e = cc ((even_end G e).0, (odd_end G e).1, b.is_mine) in
    (is_matched G mates e (cc ((even_end G e).0, (even_end G e).1, b.is_mutual)) (cc), at)

pub mated_odd : (G : Graph) (mates : List ℕ) (v e : ℕ) → NamedBack G mates v → mate_of mates v ≡ 2 * e + 1 → T (matched G mates e) × (v ≡ first_of G e)
mated_odd G mates v e b p =
    let at : v ≡ first_of G e = cc ((odd_end G e).0, (even_end G e).1, b.is_mine) in
    (is_matched G mates e (cc) (cc ((odd_end G e).0, (odd_end G e).1, b.is_mutual)), at)

pub mated_reached : (G : Graph) (mates : List ℕ) (v : ℕ) → NamedBack G mates v → Reached G v (pairs G mates)
unfolding pairs
mated_reached G mates v b = ⊎_elim
    (λ p. let (t, q) = mated_even G mates v e b p in some_kept (AtEnd G v) (matched G mates) e 0 (edge_count G) (inr q) t zero-le (omega (arith, b.is_end)))
    (λ p. let (t, q) = mated_odd G mates v e b p in some_kept (AtEnd G v) (matched G mates) e 0 (edge_count G) (inl q) t zero-le (omega (arith, b.is_end)))
    (parity (mate_of mates v))
  where
    e : ℕ
    e = mate_of mates v / 2
