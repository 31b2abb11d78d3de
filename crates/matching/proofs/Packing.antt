-- The two bounds on which weak duality rests. Numbers at the nodes, summed over the ends of a matching's edges, come to at most
-- their sum over all nodes (`packed`). They come to at least that where the edges reach each node whose number is not 0 (`covered`).
-- Both go through the list edge by edge: an edge's two numbers are set to 0, and the other edges have the rest.
use mathlib.Core.Path.{◌≡◌, sym, ap, ◌∙◌}
use mathlib.Core.Logic.{◌⊎◌, inl, inr, ⊎_elim}
use mathlib.Core.List.{List, [], ◌∷◌}
use Prim.Native.Nat.{ℕ, ◌+◌, ◌<◌, ◌≤◌, zero-le}
use native.Mathlib.Omega.{arith}
use Rattle.laws.specs.Lists.{Each, Some, sum}
use Rattle.laws.proofs.Lists.{each_map, each_range, sum_le, sum_zero, without, without_same, without_other, without_le, sum_without}
use Rattle.matching.specs.Graph.{Graph, edge_count, first_of, second_of, nodes_of, Proper, WellFormed}
use Rattle.matching.specs.Matching.{Apart, Matching}

-- the two numbers at e's ends
unfoldable pub ends : Graph → (ℕ → ℕ) → ℕ → ℕ
ends G f e = f (first_of G e) + f (second_of G e)

-- f without the nodes of e
without_ends : Graph → ℕ → (ℕ → ℕ) → ℕ → ℕ
without_ends G e f = without (second_of G e) (without (first_of G e) f)

-- e's share of the sum over all nodes
share : (G : Graph) (f : ℕ → ℕ) (e : ℕ) → Proper G e → sum (nodes_of G) f ≡ sum (nodes_of G) (without_ends G e f) + ends G f e
unfolding without_ends ends
share G f e p =
    let a = first_of G e in
    let b = second_of G e in
    omega (
      arith,
      sum_without f 0 G.nodes a zero-le (omega (arith, p.first_node)),
      sum_without (without a f) 0 G.nodes b zero-le (omega (arith, p.second_node)),
      without_other a f b (λ q. p.no_loop (sym q)),
    )

-- the numbers at an edge apart from e stay
apart_stays : (G : Graph) (f : ℕ → ℕ) (e g : ℕ) → Apart G e g → ends G f g ≡ ends G (without_ends G e f) g
unfolding without_ends ends
apart_stays G f e g d =
    let a = first_of G e in
    let b = second_of G e in
    omega (
      arith,
      without_other b (without a f) (first_of G g) d.first_second,
      without_other a f (first_of G g) d.first_first,
      without_other b (without a f) (second_of G g) d.second_second,
      without_other a f (second_of G g) d.second_first,
    )

ends_less : (G : Graph) (f : ℕ → ℕ) (e g : ℕ) → ends G (without_ends G e f) g ≤ ends G f g
unfolding without_ends ends
ends_less G f e g =
    let a = first_of G e in
    let b = second_of G e in
    omega (
      arith,
      without_le b (without a f) (first_of G g),
      without_le a f (first_of G g),
      without_le b (without a f) (second_of G g),
      without_le a f (second_of G g),
    )

pub packed : (G : Graph) → WellFormed G → (f : ℕ → ℕ) (L : List ℕ) → Matching G L → sum L (ends G f) ≤ sum (nodes_of G) f
unfolding sum
packed G w f [] m = zero-le
packed G w f (e ∷ es) m =
    let rest : Matching G es = record { known = m.known.1; apart = m.apart.1 } in
    let kept : sum es (ends G f) ≤ sum es (ends G (without_ends G e f)) =
    sum_le (ends G f) (ends G (without_ends G e f)) es (each_map (λ g d. omega (arith, apart_stays G f e g d)) es m.apart.0) in
    omega (arith, share G f e (w e m.known.0), packed G w (without_ends G e f) es rest)

-- some edge of L ends at v
abbrev pub AtEnd : Graph → ℕ → ℕ → Type 0
AtEnd G v e = (v ≡ first_of G e) ⊎ (v ≡ second_of G e)

abbrev pub Reached : Graph → ℕ → List ℕ → Type 0
Reached G v L = Some (AtEnd G v) L

reached_rest : (G : Graph) (f : ℕ → ℕ) (e v : ℕ) (es : List ℕ)
    → (f v ≡ 0) ⊎ Reached G v (e ∷ es) → (without_ends G e f v ≡ 0) ⊎ Reached G v es
unfolding without_ends
reached_rest G f e v es (inl z) = inl (omega (arith, without_le (second_of G e) (without (first_of G e) f) v, without_le (first_of G e) f v))
reached_rest G f e v es (inr (inl (inl p))) =
    inl (omega (arith, without_le (second_of G e) (without (first_of G e) f) v, ap (without (first_of G e) f) p, without_same (first_of G e) f))
reached_rest G f e v es (inr (inl (inr q))) =
    inl (ap (without (second_of G e) (without (first_of G e) f)) q ∙ without_same (second_of G e) (without (first_of G e) f))
reached_rest G f e v es (inr (inr r)) = inr r

pub covered : (G : Graph) → WellFormed G → (f : ℕ → ℕ) (L : List ℕ) → Each (λ e. e < edge_count G) L
    → ((v : ℕ) → v < G.nodes → (f v ≡ 0) ⊎ Reached G v L) → sum (nodes_of G) f ≤ sum L (ends G f)
unfolding sum
covered G w f [] k h = omega (arith, sum_zero f (nodes_of G) (each_range 0 G.nodes (λ v l m. none v (omega arith))))
  where
    none : (v : ℕ) → v < G.nodes → f v ≡ 0
    none v l = ⊎_elim (λ z. z) (λ r. absurd r) (h v l)
covered G w f (e ∷ es) k h =
    let f' = without_ends G e f in
    let less : sum es (ends G f') ≤ sum es (ends G f) = sum_le (ends G f') (ends G f) es (each_map (λ g d. ends_less G f e g) es k.1) in
    omega (arith, share G f e (w e k.0), covered G w f' es k.1 (λ v l. reached_rest G f e v es (h v l)))
