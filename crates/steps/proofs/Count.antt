-- Count: of n nodes at most (n - 1) / 2 groups are in use, so a free number is always there.
-- Each node and each group in use but one at least is a child of one group in use, and each group in use has three children or more.
-- It rests on three facts (`Counted`), which `Standing` gives, and in the middle of a step the invariant.
use mathlib.Core.Path.{◌≡◌, refl, sym, ap, ◌∙◌}
use mathlib.Core.Bool.{Bool, true, false, not}
use mathlib.Core.Logic.{◌≢◌, ◌⊎◌, inl, inr, ⊎_elim}
use mathlib.Core.List.{[]}
use Prim.Native.Nat.{ℕ, ◌+◌, ◌*◌, ◌<◌, ◌≤◌, zero-le}
use native.Mathlib.Omega.{arith}
use lib.Dec.{T, eqb, eqb→eq}
use lib.ListN.{length}
use Rattle.laws.specs.Lists.{range, sum, bit}
use Rattle.laws.specs.Times.{times}
use Rattle.laws.proofs.Lists.{each_range, length_range, sum_le, sum_zero, sum_add, sum_times, sum_swap}
use Rattle.laws.proofs.Times.{same_or_not, less_or_not, none_or_some, bit_same, bit_other, bit_le, times_nil, times_total, each_times, one_share}
use Rattle.laws.proofs.Times.{share_le, sum_split, sum_ones, sum_some}
use Rattle.matching.specs.Graph.{Graph, missing, is_missing}
use Rattle.steps.specs.State.{Forest, State}
use Rattle.steps.specs.Standing.{top_of, parent, base_of, children_of, IsGroup, InUse, Alone, Grouped, NodeOrGroupInUse, Ring, Free}
use Rattle.steps.specs.Standing.{InUseOrFree, Standing, groups_in_use}
use Rattle.steps.proofs.Ground.{Upmost, Ground, Nothing, to_ring}

-- 1 where b is in use, else 0
unfoldable share : Forest → ℕ → ℕ
share F b = bit (not (is_missing (base_of F b)))

-- 1 where b is x's parent, else 0
unfoldable link : Forest → (b x : ℕ) → ℕ
link F b x = bit (eqb (parent F x) b)

used_share : (F : Forest) (b : ℕ) → InUse F b → share F b ≡ 1
unfolding share
used_share F b u = go (is_missing (base_of F b)) (λ t. u (eqb→eq (base_of F b) missing t))
  where
    go : (c : Bool) → (T c → ⊥) → bit (not c) ≡ 1
    go true f = absurd (f tt)
    go false f = refl

unused_share : (F : Forest) (b : ℕ) → base_of F b ≡ missing → share F b ≡ 0
unfolding share
unused_share F b e = rw e

share_one : (F : Forest) (b : ℕ) → share F b ≤ 1
unfolding share
share_one F b = bit_le (not (is_missing (base_of F b)))

-- ---- what the count rests on

-- the rings, the numbers, and an outermost number
pub record Counted (n : ℕ) (F : Forest) : Type 0 where
  pub rings : (b : ℕ) → IsGroup n b → InUse F b → Ring n F b
  pub numbers : (b : ℕ) → IsGroup n b → InUseOrFree F b
  pub top : ℕ
  pub top_in_use : NodeOrGroupInUse n F top
  pub top_no_parent : parent F top ≡ missing

-- that of node 0
pub standing_counted : (G : Graph) (s : State) → 1 ≤ G.nodes → Standing G s → Counted G.nodes s.forest
standing_counted G s some h = by_node (h.nodes 0 some)
  where
    by_node : Alone s.forest 0 ⊎ Grouped G.nodes s.forest 0 → Counted G.nodes s.forest
    by_node (inl a) = record { rings = h.rings; numbers = h.numbers; top = 0; top_in_use = inl some; top_no_parent = a.no_parent }
    by_node (inr g) = record {
      rings = h.rings;
      numbers = h.numbers;
      top = top_of s.forest 0;
      top_in_use = inr (g.is_group, g.is_outermost.0);
      top_no_parent = g.is_outermost.1;
    }

pub ground_counted : {n : ℕ} {F : Forest} → 2 * n ≤ missing → 1 ≤ n → Ground n Nothing Nothing F → Counted n F
ground_counted {n} {F} fits some g = ⊎_elim (λ p. by_top p.upmost) (λ p. absurd p.1) (g.placed 0 some)
  where
    by_top : Upmost n F (top_of F 0) → Counted n F
    by_top u = record {
      rings = λ b k i. to_ring fits g b k i (λ z. z);
      numbers = g.number;
      top = top_of F 0;
      top_in_use = ⊎_elim (λ l. inl l) (λ l. inr ((l, u.is_number), u.in_use)) (less_or_not (top_of F 0) n);
      top_no_parent = u.no_parent;
    }

-- ---- the count

module _ {n : ℕ} {F : Forest} (fits : 2 * n ≤ missing) (c : Counted n F) where
  in_range : (x : ℕ) → NodeOrGroupInUse n F x → x < 2 * n
  in_range x (inl l) = omega arith
  in_range x (inr (k, u)) = k.1

  -- a group in use has three children or more
  three_each : (b : ℕ) → IsGroup n b → share F b * 3 ≤ sum (range 0 (2 * n)) (link F b)
  unfolding link
  three_each b k = ⊎_elim used (λ u. omega (arith, unused_share F b u.no_base)) (c.numbers b k)
    where
      used : InUse F b × (times b F.free ≡ 0) → share F b * 3 ≤ sum (range 0 (2 * n)) (λ x. bit (eqb (parent F x) b))
      used (u, z) =
          let r = c.rings b k u in
          let all = times_total (2 * n) (children_of F b) (each_times (λ x. x < 2 * n) (children_of F b) (λ x h. in_range x (r.each_in_use x h))) in
          omega (
            arith,
            all,
            r.three_or_more,
            share_one F b,
            sum_le (λ x. times x (children_of F b)) (λ x. bit (eqb (parent F x) b)) (range 0 (2 * n)) (each_range 0 (2 * n) (λ x l m. at_most r x)),
          )
        where
          at_most : Ring n F b → (x : ℕ) → times x (children_of F b) ≤ bit (eqb (parent F x) b)
          at_most r x = ⊎_elim (λ z. omega arith) (λ h. omega (arith, r.none_twice x, bit_same (parent F x) b (r.each_names_it x h))) (none_or_some
              (times x (children_of F b)))

  -- how often x is a child, and 1 for the outermost number
  abbrev held : ℕ → ℕ
  held x = sum (range n n) (λ b. link F b x) + bit (eqb c.top x)

  no_links : (x : ℕ) → parent F x ≡ missing → sum (range n n) (λ b. link F b x) ≡ 0
  unfolding link
  no_links x e = sum_zero (λ b. bit (eqb (parent F x) b)) (range n n) (each_range n n (λ b l m. bit_other (parent F x) b
      (λ q. let no_way : ⊥ = omega arith in no_way)))

  -- a number has one parent at most, and the outermost has none
  held_once : (x : ℕ) → held x ≤ 1
  unfolding link
  held_once x = ⊎_elim
      (λ e. omega (arith, no_links x e, bit_le (eqb c.top x)))
      (λ d. omega (arith, share_le (parent F x) n n, bit_other c.top x (λ q. d (ap (parent F) (sym q) ∙ c.top_no_parent))))
      (same_or_not (parent F x) missing)

  -- a group is held only if it is in use
  held_group : (x : ℕ) → IsGroup n x → held x ≤ share F x
  held_group x k = ⊎_elim
      (λ u. omega (arith, held_once x, used_share F x u.0))
      (λ (u : Free F x). omega (arith, no_links x u.no_parent, bit_other c.top x (other u)))
      (c.numbers x k)
    where
      other : Free F x → c.top ≢ x
      other u e = ⊎_elim
          (λ (l : c.top < n). let no_way : ⊥ = omega arith in absurd no_way)
          (λ h. absurd (h.1 (ap (base_of F) e ∙ u.no_base)))
          c.top_in_use

  few_shares : 2 * sum (range n n) (share F) + 1 ≤ n
  few_shares =
      omega (
        arith,
        sum_times (share F) 3 (range n n),
        sum_le (λ b. share F b * 3) (λ b. sum (range 0 (2 * n)) (link F b)) (range n n) (each_range n n (λ b i m. three_each b (i, omega arith))),
        sum_swap (λ b x. link F b x) (range n n) (range 0 (2 * n)),
        sum_add (λ x. sum (range n n) (λ b. link F b x)) (λ x. bit (eqb c.top x)) (range 0 (2 * n)),
        one_share c.top 0 (2 * n) zero-le (omega (arith, in_range c.top c.top_in_use)),
        split,
        sum_ones held (range 0 n) held_once,
        length_range 0 n,
        sum_le held (share F) (range n n) (each_range n n (λ x i m. held_group x (i, omega arith))),
      )
    where
      split : sum (range 0 (2 * n)) held ≡ sum (range 0 n) held + sum (range n n) held
      split = ap (λ k. sum (range 0 k) held) (omega arith) ∙ sum_split held 0 n n ∙ ap (λ k. sum (range 0 n) held + sum (range k n) held) (omega arith)

  -- ---- the two consequences

  pub few_counted : (G : Graph) → G.nodes ≡ n → 2 * groups_in_use G F + 1 ≤ G.nodes
  unfolding groups_in_use share
  few_counted G e = rw e few_shares

  pub free_there : F.free ≢ []
  free_there e = let no_way : ⊥ = omega (arith, few_shares, all_used, length_range n n) in no_way
    where
      each_used : (b : ℕ) → IsGroup n b → 1 ≤ share F b
      each_used b k = ⊎_elim (λ u. omega (arith, used_share F b u.0)) (λ (u : Free F b). let no_way : ⊥ = omega (
        arith,
        u.once_free,
        ap
            (times b) e,
        times_nil b,
      ) in absurd no_way) (c.numbers b k)

      all_used : length (range n n) ≤ sum (range n n) (share F)
      all_used = sum_some (share F) (range n n) (each_range n n (λ b l m. each_used b (l, omega arith)))
