-- Laws of the ends and weights of a list of edges: how many there are, the two ends of an edge, and what a read of one says of the graph.
use mathlib.Core.Path.{◌≡◌, refl, ap}
use mathlib.Core.Bool.{Bool, true, false, not}
use mathlib.Core.List.{List, [], ◌∷◌}
use Prim.Native.Nat.{ℕ, zero, suc, ◌+◌, ◌*◌, ◌/◌, ◌%◌, ◌<◌, ◌≤◌}
use native.Mathlib.Omega.{arith}
use borrow.Author.Tests.{lt-ltb, le-ltb}
use lib.Dec.{T, ltb, ltb→lt, nltb→le}
use lib.IntN.{pos}
use lib.ListN.{length, get_or}
use Rattle.laws.specs.Run.{ok, and_then, must, at}
use Rattle.matching.specs.Graph.{Edge, graph_of, first_of, second_of, weight_of, node_at, beside}
use Rattle.numbers.specs.Edges.{ends_of, weights_of}

pub length_ends_of : (edges : List Edge) → length (ends_of edges) ≡ 2 * length edges
unfolding ends_of
length_ends_of [] = refl
length_ends_of (x ∷ xs) = rw (length_ends_of xs) (omega arith)

pub length_weights_of : (edges : List Edge) → length (weights_of edges) ≡ length edges
unfolding weights_of
length_weights_of [] = refl
length_weights_of (x ∷ xs) = ap suc (length_weights_of xs)

-- the ends of the edge that is one further on
pub first_next : (e : ℕ) → 2 * suc e ≡ suc (suc (2 * e))
first_next e = omega arith

pub second_next : (e : ℕ) → 2 * suc e + 1 ≡ suc (suc (2 * e + 1))
second_next e = omega arith

-- both ends of an edge are there
pub beside_in : (p m : ℕ) → p < 2 * m → beside p < 2 * m
beside_in p m h = omega arith

half_next : (p : ℕ) → (suc (suc p)) / 2 ≡ suc (p / 2)
half_next p = omega arith

odd_next : (p : ℕ) → (suc (suc p)) % 2 ≡ p % 2
odd_next p = omega arith

below_next : (p k : ℕ) → ltb (suc (suc p)) (2 * suc k) ≡ ltb p (2 * k)
below_next p k = go (ltb p (2 * k)) (ltb→lt p (2 * k)) (nltb→le p (2 * k))
  where
    go : (t : Bool) → (T t → p < 2 * k) → (T (not t) → 2 * k ≤ p) → ltb (suc (suc p)) (2 * suc k) ≡ t
    go true f g = lt-ltb (suc (suc p)) (2 * suc k) (omega (arith, f tt))
    go false f g = le-ltb (suc (suc p)) (2 * suc k) (omega (arith, g tt))

-- two ends further on is one edge further on
node_next : (n : ℕ) (x : Edge) (xs : List Edge) (p : ℕ) → node_at (graph_of n (x ∷ xs)) (suc (suc p)) ≡ node_at (graph_of n xs) p
unfolding node_at first_of second_of
node_next n x xs p = rw (half_next p, odd_next p)

-- the node at end p, where there is such an end
pub at_ends_of : (n : ℕ) (edges : List Edge) (p : ℕ)
    → and_then (must (ltb p (2 * length edges))) (λ _. ok (node_at (graph_of n edges) p)) ≡ at (ends_of edges) p
unfolding at ends_of node_at first_of second_of
at_ends_of n [] p = rw (le-ltb p 0 (omega arith))
at_ends_of n (x ∷ xs) zero = rw (lt-ltb 0 (2 * suc (length xs)) (omega arith))
at_ends_of n (x ∷ xs) (suc zero) = rw (lt-ltb 1 (2 * suc (length xs)) (omega arith))
at_ends_of n (x ∷ xs) (suc (suc p)) = rw (below_next p (length xs), node_next n x xs p) (at_ends_of n xs p)

pub weight_of_at : (n : ℕ) (edges : List Edge) (e : ℕ) → weight_of (graph_of n edges) e ≡ get_or (weights_of edges) e (pos 0)
unfolding weight_of weights_of
weight_of_at n [] e = refl
weight_of_at n (x ∷ xs) zero = refl
weight_of_at n (x ∷ xs) (suc e) = weight_of_at n xs e
