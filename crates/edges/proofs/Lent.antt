-- A graph and the lists in which it is lent: the node at an end, the ends across from a node, an edge and its slack.
use Rattle.std.proofs.Common.{◌≡◌, List, [], ◌∷◌, ℕ, zero, suc, ◌+◌, ◌*◌, ◌<◌, ◌≤◌, length, get_or, refl, ap, ◌∙◌, arith, ℤ, pos, ◌+ℤ◌, ◌-ℤ◌, ◌*ℤ◌}
use borrow.Author.Tests.{lt-ltb, le-ltb}
use Rattle.laws.specs.Run.{Run, ok, fault, at}
use Rattle.laws.proofs.Windows.{at_in, at_out}
use Rattle.matching.specs.Graph.{Edge, Graph, edge, edge_at, edge_count, graph_of, first_of, second_of, weight_of}
use Rattle.matching.specs.Certificate.{slack, dual_of}
use Rattle.numbers.specs.Edges.{ends_of, weights_of}
use Rattle.numbers.proofs.EdgeLaws.{first_next, second_next, at_ends_of}
use Rattle.steps.specs.Ends.{endpoint, slack_of, far_ends}
use Rattle.edges.specs.Neighbours.{far_from}
use Rattle.edges.specs.Views.{edges_over}
use Rattle.edges.proofs.Placing.{far_ends_lem}

-- ---- lists of edges

pub ends_over : (ends : List ℕ) (weights : List ℤ) → length ends ≡ 2 * length weights → ends_of (edges_over ends weights) ≡ ends
unfolding ends_of edges_over
ends_over (x ∷ y ∷ ends) (w ∷ ws) e = ap {B = List ℕ} (λ l. x ∷ y ∷ l) (ends_over ends ws (omega (arith, e)))
ends_over (x ∷ y ∷ ends) [] e = absurd (omega (arith, e))
ends_over (x ∷ []) ws e = absurd (omega (arith, e))
ends_over [] ws e = refl

pub weights_over : (ends : List ℕ) (weights : List ℤ) → length ends ≡ 2 * length weights → weights_of (edges_over ends weights) ≡ weights
unfolding weights_of edges_over
weights_over (x ∷ y ∷ ends) (w ∷ ws) e = ap {B = List ℤ} (λ l. w ∷ l) (weights_over ends ws (omega (arith, e)))
weights_over (x ∷ y ∷ ends) [] e = refl
weights_over (x ∷ []) ws e = absurd (omega (arith, e))
weights_over [] (w ∷ ws) e = absurd (omega (arith, e))
weights_over [] [] e = refl

-- there is an edge for each weight
pub count_over : (ends : List ℕ) (weights : List ℤ) → length ends ≡ 2 * length weights → length (edges_over ends weights) ≡ length weights
unfolding edges_over
count_over (x ∷ y ∷ ends) (w ∷ ws) e = ap suc (count_over ends ws (omega (arith, e)))
count_over (x ∷ y ∷ ends) [] e = refl
count_over (x ∷ []) ws e = absurd (omega (arith, e))
count_over [] (w ∷ ws) e = absurd (omega (arith, e))
count_over [] [] e = refl

-- edge e
entry_over : (ends : List ℕ) (weights : List ℤ) (e : ℕ) (d : Edge) → length ends ≡ 2 * length weights → e < length weights
    → get_or (edges_over ends weights) e d ≡ edge (get_or ends (2 * e) 0) (get_or ends (2 * e + 1) 0) (get_or weights e (pos 0))
unfolding edges_over
entry_over (x ∷ y ∷ ends) (w ∷ ws) zero d h l = refl
entry_over (x ∷ y ∷ ends) (w ∷ ws) (suc e) d h l = rw (second_next e, first_next e) (entry_over ends ws e d (omega (arith, h)) (omega (arith, l)))
entry_over (x ∷ y ∷ ends) [] e d h l = absurd (omega (arith, l))
entry_over (x ∷ []) ws e d h l = absurd (omega (arith, h))
entry_over [] ws e d h l = absurd (omega (arith, h, l))

-- ---- a lent graph

module _ (n : ℕ) (ends : List ℕ) (weights : List ℤ) (G : Graph)
    (given : graph_of n (edges_over ends weights) ≡ G) (pairs : length ends ≡ 2 * length weights) where
  pub lent_endpoint : (p : ℕ) → endpoint G p ≡ at ends p
  unfolding endpoint
  lent_endpoint p = rw (← given) (at_ends_of n (edges_over ends weights) p ∙ ap (λ (l : List ℕ). at l p) (ends_over ends weights pairs))

  pub lent_far : (v : ℕ) → far_ends G v ≡ far_from v 0 ends
  lent_far v = rw (← given) (far_ends_lem (graph_of n (edges_over ends weights)) (ends_over ends weights pairs) v)

  pub lent_count : edge_count G ≡ length weights
  lent_count = rw (← given) (count_over ends weights pairs)

  pub lent_weights : weights_of G.edges ≡ weights
  lent_weights = rw (← given) (weights_over ends weights pairs)

  module _ (e : ℕ) where
    pub lent_none : length weights ≤ e → at G.edges e ≡ fault
    lent_none h = at_out G.edges e (omega (arith, lent_count, h))

    entry : e < length weights → edge_at G e ≡ edge (get_or ends (2 * e) 0) (get_or ends (2 * e + 1) 0) (get_or weights e (pos 0))
    entry h = rw (← given) (entry_over ends weights e (edge 0 0 (pos 0)) pairs h)

    pub lent_edge : e < length weights → at G.edges e ≡ ok (edge (get_or ends (2 * e) 0) (get_or ends (2 * e + 1) 0) (get_or weights e (pos 0)))
    lent_edge h = at_in G.edges e (edge 0 0 (pos 0)) (omega (arith, lent_count, h)) ∙ ap (λ (x : Edge). ok x) (entry h)

    module _ (duals : List ℤ) where
      pub slack_none : length weights ≤ e → slack_of G duals e ≡ fault
      unfolding slack_of
      slack_none h = rw (lent_none h)

      module _ (h : e < length weights) where
        pub slack_first : length duals ≤ get_or ends (2 * e) 0 → slack_of G duals e ≡ fault
        unfolding slack_of
        slack_first l = rw (lent_edge h, le-ltb _ _ l)

        pub slack_second : get_or ends (2 * e) 0 < length duals → length duals ≤ get_or ends (2 * e + 1) 0 → slack_of G duals e ≡ fault
        unfolding slack_of
        slack_second k l = rw (lent_edge h, lt-ltb _ _ k, le-ltb _ _ l)

        pub slack_some : get_or ends (2 * e) 0 < length duals → get_or ends (2 * e + 1) 0 < length duals → slack_of G duals e
            ≡ ok (get_or duals (get_or ends (2 * e) 0) (pos 0) +ℤ get_or duals (get_or ends (2 * e + 1) 0) (pos 0) -ℤ pos 2 *ℤ get_or weights e (pos 0))
        unfolding slack_of slack first_of second_of weight_of dual_of
        slack_some k l =
            let at_edge : Edge → Run ℤ = λ x. ok (get_or duals x.first (pos 0) +ℤ get_or duals x.second (pos 0) -ℤ pos 2 *ℤ x.weight) in
            rw (lent_edge h, lt-ltb _ _ k, lt-ltb _ _ l) (ap at_edge (entry h))
