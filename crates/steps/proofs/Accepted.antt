-- What input that passes checks 1 to 6 is: within the limits, lists long enough, each edge between two nodes that are there.
use Rattle.std.specs.Prelude.{if◌then◌else◌}
use mathlib.Core.Path.{◌≡◌, sym, subst}
use mathlib.Core.Bool.{Bool, true, false, ◌||◌}
use mathlib.Core.List.{List, [], ◌∷◌}
use Prim.Native.Nat.{ℕ, suc, ◌*◌, ◌<◌, ◌≤◌}
use native.Mathlib.Nat.{lt_of_not-le, le_of_suc-le-suc}
use lib.Dec.{T, eqb, ltb, leb}
use lib.IntN.{pos, nat_abs}
use lib.ListN.{length}
use mathlib.Core.Logic.{◌≢◌, inl, inr}
use Rattle.laws.specs.Lists.{Each}
use Rattle.laws.proofs.Decides.{equal, less, at_most, either}
use Rattle.laws.proofs.Lists.{each_at}
use Rattle.matching.specs.Graph.{Edge, edge, graph_of, first_of, second_of, WellFormed}
use Rattle.steps.specs.Refusals.{max_nodes, max_edges, max_weight, Refusal, NODES, EDGES, BUFFER, END, LOOP, WEIGHT, Intake, fine, refused, Room}
use Rattle.steps.specs.Refusals.{edge_intake, or_else, edges_intake, too_short, intake}

pub record AcceptedEdge (n : ℕ) (x : Edge) : Type 0 where
  pub first_node : x.first < n
  pub second_node : x.second < n
  pub no_loop : x.first ≢ x.second
  pub near_zero : nat_abs x.weight ≤ max_weight

pub record Accepted (n : ℕ) (edges : List Edge) (room : Room) : Type 0 where
  pub few_nodes : n ≤ max_nodes
  pub few_edges : length edges ≤ max_edges
  pub mates_fit : n ≤ room.mates
  pub duals_fit : 2 * n ≤ room.duals
  pub parents_fit : 2 * n ≤ room.parents
  pub each_edge : Each (AcceptedEdge n) edges

-- ---- a chain of tests that refused nothing

Fine : Intake → Type 0
Fine fine = Unit {0}
Fine (refused r) = ⊥

is_fine : (i : Intake) → i ≡ fine → Fine i
unfolding Fine
is_fine i e = subst Fine (sym e) tt

-- the first test did not pass, and the rest refused nothing
not_refused : (t : Bool) (r : Refusal) (i : Intake) → Fine (if t then refused r else i) → ¬ (T t) × Fine i
unfolding Fine
not_refused true r i h = absurd h
not_refused false r i h = (λ f. f, h)

fine_both : (i j : Intake) → Fine (or_else i j) → Fine i × Fine j
unfolding Fine
fine_both fine j h = (tt, h)
fine_both (refused r) j h = absurd h

not_less : {m n : ℕ} → ¬ (m < n) → n ≤ m
not_less h = le_of_suc-le-suc (lt_of_not-le h)

-- ---- the edges

fine_edge : (n e : ℕ) (x : Edge) → Fine (edge_intake n e x) → AcceptedEdge n x
unfolding edge_intake
fine_edge n e x h =
    let a = x.first in
    let b = x.second in
    let (no_end, rest) = not_refused (leb n a || leb n b) (END e) _ h in
    let (no_loop, rest) = not_refused (eqb a b) (LOOP e) _ rest in
    let (no_weight, rest) = not_refused (ltb max_weight (nat_abs x.weight)) (WEIGHT e) _ rest in
    record {
      first_node = lt_of_not-le (λ q. no_end ((either (at_most n a) (at_most n b)).complete (inl q)));
      second_node = lt_of_not-le (λ q. no_end ((either (at_most n a) (at_most n b)).complete (inr q)));
      no_loop = λ q. no_loop ((equal a b).complete q);
      near_zero = not_less (λ q. no_weight ((less max_weight (nat_abs x.weight)).complete q));
    }

fine_edges : (n e : ℕ) (xs : List Edge) → Fine (edges_intake n e xs) → Each (AcceptedEdge n) xs
unfolding edges_intake
fine_edges n e [] h = tt
fine_edges n e (x ∷ xs) h =
    let (here, later) = fine_both (edge_intake n e x) (edges_intake n (suc e) xs) h in
    (fine_edge n e x here, fine_edges n (suc e) xs later)

-- ---- the whole

pub accepted : (n : ℕ) (edges : List Edge) (room : Room) → intake n edges room ≡ fine → Accepted n edges room
unfolding intake too_short
accepted n edges room e =
    let m = room.mates in
    let d = room.duals in
    let p = room.parents in
    let (no_nodes, rest) = not_refused (ltb max_nodes n) NODES _ (is_fine _ e) in
    let (no_edges, rest) = not_refused (ltb max_edges (length edges)) EDGES _ rest in
    let (no_buffer, rest) = not_refused (ltb m n || ltb d (2 * n) || ltb p (2 * n)) BUFFER _ rest in
    let short = either (either (less m n) (less d (2 * n))) (less p (2 * n)) in
    record {
      few_nodes = not_less (λ q. no_nodes ((less max_nodes n).complete q));
      few_edges = not_less (λ q. no_edges ((less max_edges (length edges)).complete q));
      mates_fit = not_less (λ q. no_buffer (short.complete (inl (inl q))));
      duals_fit = not_less (λ q. no_buffer (short.complete (inl (inr q))));
      parents_fit = not_less (λ q. no_buffer (short.complete (inr q)));
      each_edge = fine_edges n 0 edges rest;
    }

pub accepted_well_formed : (n : ℕ) (edges : List Edge) → Each (AcceptedEdge n) edges → WellFormed (graph_of n edges)
unfolding first_of second_of
accepted_well_formed n edges h e l =
    let x = each_at (AcceptedEdge n) edges e (edge 0 0 (pos 0)) h l in
    record { first_node = x.first_node; second_node = x.second_node; no_loop = x.no_loop }
