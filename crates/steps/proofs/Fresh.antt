-- The fresh start has what holds after each completed step: every node stands alone, every group number is free, no node has a mate.
use mathlib.Core.Path.{◌≡◌, refl, ap, ◌∙◌}
use mathlib.Core.Logic.{inl, inr}
use mathlib.Core.List.{[], ◌++◌}
use Prim.Native.Nat.{ℕ, ◌*◌, ◌<◌, ◌≤◌}
use native.Mathlib.Omega.{arith}
use lib.ListN.{get_or, replicate, length-append, length-replicate, get_or-eq_default}
use Rattle.laws.specs.Lists.{range}
use Rattle.laws.specs.Times.{times}
use Rattle.laws.proofs.Lists.{length_range, get_or_range, get_or_padded}
use Rattle.laws.proofs.Times.{times_nil, times_range, range_times, range_first}
use Rattle.matching.specs.Graph.{Graph, missing}
use Rattle.matching.specs.Certificate.{mate_of, parent_of, climb}
use Rattle.steps.specs.State.{Forest, start}
use Rattle.steps.specs.Standing.{top_of, parent, base_of, children_of}
use Rattle.steps.proofs.Ground.{Placed, Ground, Nothing}
use Rattle.steps.proofs.Stepping.{Holding}
use Rattle.steps.proofs.Frames.{Of}

module _ (G : Graph) (fits : 2 * G.nodes ≤ missing) (some : 1 ≤ G.nodes) where
  abbrev n : ℕ
  n = G.nodes

  abbrev F : Forest
  F = record {
    tops = range 0 n;
    parents = replicate (2 * n) missing;
    bases = range 0 n ++ replicate n missing;
    children = replicate (2 * n) [];
    ring_ends = replicate (2 * n) [];
    free = range n n;
  }

  no_parent : (x : ℕ) → parent F x ≡ missing
  unfolding parent_of
  no_parent x = get_or_padded [] (2 * n) x missing

  no_children : (b : ℕ) → children_of F b ≡ []
  no_children b = get_or_padded [] (2 * n) b []

  base_of_lem : (x : ℕ) → base_of F x ≡ get_or (range 0 n) x missing
  base_of_lem x = get_or_padded (range 0 n) n x missing

  node_base : (v : ℕ) → v < n → base_of F v ≡ v
  node_base v l = omega (arith, base_of_lem v, get_or_range 0 n v missing l)

  group_base : (b : ℕ) → n ≤ b → base_of F b ≡ missing
  group_base b l = base_of_lem b ∙ get_or-eq_default (range 0 n) missing (omega (arith, length_range 0 n))

  no_child : (b c : ℕ) → 0 < times c (children_of F b) → ⊥
  no_child b c h = let no_way : ⊥ = omega (arith, ap (times c) (no_children b), times_nil c) in no_way

  own_top : (v : ℕ) → v < n → top_of F v ≡ v
  own_top v l = omega (arith, get_or_range 0 n v missing l)

  alone : (v : ℕ) → v < n → Placed n F v
  unfolding climb
  alone v l = record {
    upmost = rw (own_top v l) (record {
      is_number = omega arith;
      in_use = λ e. (let no_way : ⊥ = omega
          (arith, node_base v l) in no_way);
      no_parent = no_parent v;
    });
    lies = rw (own_top v l) (0, refl);
  }

  fresh_ground : Ground n Nothing Nothing F
  fresh_ground = record {
    tops_length = length_range 0 n;
    parents_length = length-replicate (2 * n) missing;
    bases_length = omega (arith, length-append (range 0 n) (replicate n missing), length_range 0 n, length-replicate n missing);
    children_length = length-replicate (2 * n) [];
    node_base = node_base;
    node_alone = λ v l. no_children v;
    free_group = λ b h. let (l, k) = range_times b n n h in (l, omega arith);
    number = λ b k. inr (record {
      no_base = group_base b k.0;
      once_free = times_range b n n k.0 (omega
          (arith, k.1));
      no_children = no_children b;
      no_parent = no_parent b;
    });
    ring = λ b k u. absurd (u (group_base b k.0));
    above = λ x m. absurd (m (no_parent x));
    below = λ b c s h. absurd (no_child b c h);
    open_top = λ b o. absurd o;
    placed = λ v l. inl (alone v l);
    pending_top = λ d o. absurd o;
  }

  pub fresh_holds : Of (Holding G) (start G)
  unfolding start mate_of
  fresh_holds = (record { ground = fresh_ground; first = range_first n n some }, λ v l. inl (get_or_padded [] n v missing))
