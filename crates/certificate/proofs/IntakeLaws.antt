-- The edges of three lists, one after the other: the first that is refused, or none.
use Rattle.std.specs.Prelude.{if◌then◌else◌}
use mathlib.Core.Path.{◌≡◌, refl, ap, ◌∙◌}
use mathlib.Core.Bool.{Bool, true, false}
use mathlib.Core.List.{List, [], ◌∷◌}
use Prim.Native.Nat.{ℕ, zero, suc, ◌+◌, ◌<◌, ◌≤◌}
use native.Mathlib.Numerals.{add-one}
use native.Mathlib.Omega.{arith}
use borrow.Author.Tests.{lt-ltb, le-ltb}
use lib.Dec.{T, eqb, ltb, eqb→eq}
use lib.Ieee.Fits.{and_l, and_r}
use lib.IntN.{ℤ, pos}
use lib.ListN.{length, get_or, drop, drop_of_length-le}
use lib.Seq.{drop-cons}
use Rattle.matching.specs.Graph.{Edge, edge, edges_from}
use Rattle.steps.specs.Refusals.{Refusal, NODES, EDGES, BUFFER, fine, refused, Room, edge_intake, edges_intake, too_short, intake}
use Rattle.laws.proofs.Loops.{of_true}
use Rattle.certificate.specs.Lists.{same_length, unequal, intake_lists}

pub edges_length : (xs ys : List ℕ) (zs : List ℤ) → length ys ≡ length xs → length zs ≡ length xs → length (edges_from xs ys zs) ≡ length xs
edges_length [] ys zs p q = refl
edges_length (x ∷ xs) [] zs p q = let no_way : ⊥ = omega arith in absurd no_way
edges_length (x ∷ xs) (y ∷ ys) [] p q = let no_way : ⊥ = omega arith in absurd no_way
edges_length (x ∷ xs) (y ∷ ys) (z ∷ zs) p q = ap suc (edges_length xs ys zs (omega arith) (omega arith))

pub edge_at : (xs ys : List ℕ) (zs : List ℤ) (e : ℕ) → length ys ≡ length xs → length zs ≡ length xs
    → get_or (edges_from xs ys zs) e (edge 0 0 (pos 0)) ≡ edge (get_or xs e 0) (get_or ys e 0) (get_or zs e (pos 0))
edge_at [] [] [] e p q = refl
edge_at [] [] (z ∷ zs) e p q = let no_way : ⊥ = omega arith in absurd no_way
edge_at [] (y ∷ ys) zs e p q = let no_way : ⊥ = omega arith in absurd no_way
edge_at (x ∷ xs) [] zs e p q = let no_way : ⊥ = omega arith in absurd no_way
edge_at (x ∷ xs) (y ∷ ys) [] e p q = let no_way : ⊥ = omega arith in absurd no_way
edge_at (x ∷ xs) (y ∷ ys) (z ∷ zs) zero p q = refl
edge_at (x ∷ xs) (y ∷ ys) (z ∷ zs) (suc e) p q = edge_at xs ys zs e (omega arith) (omega arith)

module _ (n : ℕ) (xs ys : List ℕ) (zs : List ℤ) (p : length ys ≡ length xs) (q : length zs ≡ length xs) (e : ℕ) where
  here : e < length xs → drop e (edges_from xs ys zs) ≡ edge (get_or xs e 0) (get_or ys e 0) (get_or zs e (pos 0)) ∷ drop (suc e) (edges_from xs ys zs)
  here h = drop-cons (edges_from xs ys zs) e (edge 0 0 (pos 0)) (omega (arith, edges_length xs ys zs p q))
      ∙ ap {B = List Edge} (λ (x : Edge). x ∷ drop (suc e) (edges_from xs ys zs)) (edge_at xs ys zs e p q)

  pub intake_on : e < length xs → edge_intake n e (edge (get_or xs e 0) (get_or ys e 0) (get_or zs e (pos 0))) ≡ fine
      → edges_intake n (e + 1) (drop (e + 1) (edges_from xs ys zs)) ≡ edges_intake n e (drop e (edges_from xs ys zs))
  unfolding edges_intake
  intake_on h f = rw (add-one e, here h, f)

  pub intake_bad : (r : Refusal) → e < length xs → edge_intake n e (edge (get_or xs e 0) (get_or ys e 0) (get_or zs e (pos 0))) ≡ refused r
      → edges_intake n e (drop e (edges_from xs ys zs)) ≡ refused r
  unfolding edges_intake
  intake_bad r h f = rw (here h, f)

  pub intake_out : length xs ≤ e → edges_intake n e (drop e (edges_from xs ys zs)) ≡ fine
  unfolding edges_intake
  intake_out h = rw (drop_of_length-le (edges_from xs ys zs) {i = e} (omega (arith, edges_length xs ys zs p q)))

pub ruleset each_edge = (intake_on, intake_bad, intake_out)

-- ---- the whole intake, in the order of the code's tests

module _ (xs ys : List ℕ) (zs : List ℤ) where
  seconds : T (same_length xs ys zs) → length ys ≡ length xs
  unfolding same_length
  seconds t = eqb→eq (length ys) (length xs) (and_l (eqb (length ys) (length xs)) (eqb (length zs) (length xs)) t)

  weights : T (same_length xs ys zs) → length zs ≡ length xs
  unfolding same_length
  weights t = eqb→eq (length zs) (length xs) (and_r (eqb (length ys) (length xs)) (eqb (length zs) (length xs)) t)

module _ (n : ℕ) (xs ys : List ℕ) (zs : List ℤ) (room : Room) where
  same_lengths : T (same_length xs ys zs) → length (edges_from xs ys zs) ≡ length xs
  same_lengths t = edges_length xs ys zs (seconds xs ys zs t) (weights xs ys zs t)

  pub nodes_first : 64 < n → intake_lists n xs ys zs room ≡ refused NODES
  unfolding intake_lists unequal intake
  nodes_first h = rw (lt-ltb 64 n h) (same (same_length xs ys zs))
    where
      same : (t : Bool) → (if t then refused NODES else refused NODES) ≡ refused NODES
      same true = refl
      same false = refl

  module _ (h : n ≤ 64) where
    pub edges_second : 2048 < length xs → intake_lists n xs ys zs room ≡ refused EDGES
    unfolding intake_lists unequal intake
    edges_second l = rw (le-ltb 64 n h) (go (same_length xs ys zs) same_lengths)
      where
        go : (t : Bool) → (T t → length (edges_from xs ys zs) ≡ length xs)
            → (if t then (if ltb 2048 (length (edges_from xs ys zs)) then refused EDGES else if too_short n room then refused BUFFER else edges_intake n 0
            (edges_from xs ys zs)) else refused (if ltb 2048 (length xs) then EDGES else BUFFER)) ≡ refused EDGES
        go true f = rw (f tt, lt-ltb 2048 (length xs) l)
        go false f = rw (lt-ltb 2048 (length xs) l)

    module _ (l : length xs ≤ 2048) where
      pub lengths_differ : same_length xs ys zs ≡ false → intake_lists n xs ys zs room ≡ refused BUFFER
      unfolding intake_lists unequal
      lengths_differ d = rw (d, le-ltb 64 n h, le-ltb 2048 (length xs) l)

      module _ (s : same_length xs ys zs ≡ true) where
        few : length (edges_from xs ys zs) ≤ 2048
        few = omega (arith, same_lengths (of_true s))

        pub lists_short : too_short n room ≡ true → intake_lists n xs ys zs room ≡ refused BUFFER
        unfolding intake_lists intake
        lists_short t = rw (s, le-ltb 64 n h, le-ltb 2048 (length (edges_from xs ys zs)) few, t)

        pub edges_last : too_short n room ≡ false → intake_lists n xs ys zs room ≡ edges_intake n 0 (edges_from xs ys zs)
        unfolding intake_lists intake
        edges_last t = rw (s, le-ltb 64 n h, le-ltb 2048 (length (edges_from xs ys zs)) few, t)

pub ruleset refuses = (nodes_first, edges_second, lengths_differ, lists_short, edges_last)
