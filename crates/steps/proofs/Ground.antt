-- HELPER: the invariant of the forest that the induction over a step carries (`Ground`), and that it gives the facts about the forest.
-- In the middle of a step some groups are open (O): their children are being freed; and nodes that lie in some numbers (D) have not
-- got their new entry in the outermost list yet. After a completed step O and D are empty.
-- Numbers that nodes wait for have no parent, so each climb from a node ends. A later proof that no cause of FAULT arises extends this
-- record: rank, bases and ring ends are not needed here.
use mathlib.Core.Path.{◌≡◌, sym, ap, ◌∙◌}
use mathlib.Core.Logic.{◌≢◌, ◌⊎◌, inl, inr, ⊎_elim}
use mathlib.Core.List.{List, []}
use Prim.Native.Nat.{ℕ, suc, ◌*◌, ◌%◌, ◌<◌, ◌≤◌}
use native.Mathlib.Omega.{arith}
use lib.ListN.{length}
use Rattle.laws.specs.Lists.{range}
use Rattle.laws.specs.Times.{times}
use Rattle.laws.proofs.Lists.{length_range}
use Rattle.laws.proofs.Times.{same_or_not, less_or_not, none_or_some, each_times, times_range, no_longer}
use Rattle.matching.specs.Graph.{Graph, missing}
use Rattle.matching.specs.Certificate.{climb, MateHolds}
use Rattle.steps.specs.State.{Forest, State}
use Rattle.steps.specs.Standing.{top_of, parent, base_of, children_of, IsGroup, InUse, LiesIn, Alone, Grouped, NodeOrGroupInUse, Ring}
use Rattle.steps.specs.Standing.{ParentInUse, Free, InUseOrFree, FirstFree, Standing}
use Rattle.steps.proofs.Climbing.{parent_in, climb_on, last_move, one_top}

-- ---- numbers

-- b is a number in use, and outermost; v's entry is such a number, which holds v
pub record Upmost (n : ℕ) (F : Forest) (b : ℕ) : Type 0 where
  pub is_number : b < 2 * n
  pub in_use : InUse F b
  pub no_parent : parent F b ≡ missing

pub record Placed (n : ℕ) (F : Forest) (v : ℕ) : Type 0 where
  pub upmost : Upmost n F (top_of F v)
  pub lies : LiesIn F v (top_of F v)

-- v lies in a number of D
abbrev pub Pending : (D : ℕ → Type 0) → Forest → ℕ → Type 0
Pending D F v = (d : ℕ) × D d × LiesIn F v d

-- a group that is in use
abbrev pub Used : Forest → ℕ → Type 0
Used F b = InUse F b × (times b F.free ≡ 0)

-- a ring that may stand
pub record Fit (kids : List ℕ) : Type 0 where
  pub is_odd : length kids % 2 ≡ 1
  pub three_or_more : 3 ≤ length kids
  pub none_twice : (c : ℕ) → times c kids ≤ 1

-- x has a parent: a group in use, among whose children it is
pub record Held (n : ℕ) (F : Forest) (x : ℕ) : Type 0 where
  pub by_group : IsGroup n (parent F x)
  pub in_use : InUse F (parent F x)
  pub listed : 0 < times x (children_of F (parent F x))

-- ---- the invariant

pub record Ground (n : ℕ) (O D : ℕ → Type 0) (F : Forest) : Type 0 where
  pub tops_length : length F.tops ≡ n
  pub parents_length : length F.parents ≡ 2 * n
  pub bases_length : length F.bases ≡ 2 * n
  pub children_length : length F.children ≡ 2 * n
  pub node_base : (v : ℕ) → v < n → base_of F v ≡ v
  pub node_alone : (v : ℕ) → v < n → children_of F v ≡ []
  pub free_group : (b : ℕ) → 0 < times b F.free → IsGroup n b
  pub number : (b : ℕ) → IsGroup n b → InUseOrFree F b
  pub ring : (b : ℕ) → IsGroup n b → InUse F b → Fit (children_of F b)
  pub above : (x : ℕ) → parent F x ≢ missing → Held n F x
  pub below : (b c : ℕ) → ¬ (O b) → 0 < times c (children_of F b) → parent F c ≡ b
  pub open_top : (b : ℕ) → O b → IsGroup n b × Upmost n F b
  pub placed : (v : ℕ) → v < n → Placed n F v ⊎ Pending D F v
  pub pending_top : (d : ℕ) → D d → parent F d ≡ missing

-- after a completed step nothing is open and nothing pending
abbrev pub Nothing : ℕ → Type 0
Nothing x = ⊥

abbrev pub Or : (ℕ → Type 0) → ℕ → ℕ → Type 0
Or D b x = D x ⊎ (x ≡ b)

-- the same forest, with other groups open and other numbers pending
pub otherwise : {n : ℕ} {O O' D D' : ℕ → Type 0} {F : Forest} → ((b : ℕ) → O b → O' b) → ((b : ℕ) → O' b → IsGroup n b × Upmost n F b)
    → ((v : ℕ) → v < n → Placed n F v ⊎ Pending D F v → Placed n F v ⊎ Pending D' F v) → ((d : ℕ) → D' d → parent F d ≡ missing)
    → Ground n O D F → Ground n O' D' F
otherwise more top place pend g = record {
  tops_length = g.tops_length;
  parents_length = g.parents_length;
  bases_length = g.bases_length;
  children_length = g.children_length;
  node_base = g.node_base;
  node_alone = g.node_alone;
  free_group = g.free_group;
  number = g.number;
  ring = g.ring;
  above = g.above;
  below = λ b c shut. g.below b c (λ o. shut (more b o));
  open_top = top;
  placed = λ v l. place v l (g.placed v l);
  pending_top = pend;
}

-- ---- what it gives

module _ {n : ℕ} {O D : ℕ → Type 0} {F : Forest} (fits : 2 * n ≤ missing) (g : Ground n O D F) where
  pub is_known : (x : ℕ) → x < 2 * n → x ≢ missing
  is_known x h = omega arith

  pub short : length F.parents ≤ missing
  short = omega (arith, g.parents_length)

  -- a number with a parent is one of 0 to 2n - 1
  pub held_number : (x : ℕ) → parent F x ≢ missing → x < 2 * n
  held_number x d = omega (arith, parent_in F.parents x d, g.parents_length)

  -- a number with a parent or with children is in use
  pub held_used : (x : ℕ) → parent F x ≢ missing → InUse F x
  held_used x d = ⊎_elim node (λ l. ⊎_elim (λ u. u.0) (λ u. absurd (d u.no_parent)) (g.number x (l, held_number x d))) (less_or_not x n)
    where
      node : x < n → InUse F x
      node l e = let no_way : ⊥ = omega (arith, g.node_base x l) in absurd no_way

  -- and is a node or a group in use
  pub held_in_use : (x : ℕ) → parent F x ≢ missing → NodeOrGroupInUse n F x
  held_in_use x d = ⊎_elim (λ l. inl l) (λ l. inr ((l, held_number x d), held_used x d)) (less_or_not x n)

  -- a node is no one's parent
  pub node_childless : (v x : ℕ) → v < n → parent F x ≢ v
  node_childless v x l e =
      let no_way : ⊥ = omega (arith, (g.above x (λ z. is_known v (omega arith) (sym e ∙ z))).by_group.0) in no_way

  -- climbing from a node ends
  pub climb_ends : (v : ℕ) → v < n → (m : ℕ) × (climb F.parents m v ≡ missing)
  climb_ends v l = ⊎_elim (λ p. up (top_of F v) p.lies p.upmost.no_parent) (λ p. up p.0 p.2 (g.pending_top p.0 p.1)) (g.placed v l)
    where
      up : (t : ℕ) → LiesIn F v t → parent F t ≡ missing → (m : ℕ) × (climb F.parents m v ≡ missing)
      up t (k, e) q = (suc k, climb_on F.parents k v ∙ ap (parent F) e ∙ q)

  -- the free numbers are groups, each once
  pub few_free : length F.free ≤ n
  few_free = omega (arith, length_range n n, no_longer (2 * n) F.free (range n n) (each_times (λ x. x < 2 * n) F.free (λ x h. (g.free_group x h).1)) once)
    where
      once : (x : ℕ) → times x F.free ≤ times x (range n n)
      once x = ⊎_elim (λ z. omega (arith, z)) (λ h. let k = g.free_group x h in omega (arith, times_range x n n k.0 (omega (arith, k.1)), at_most k))
          (none_or_some (times x F.free))
        where
          at_most : IsGroup n x → times x F.free ≤ 1
          at_most k = ⊎_elim (λ u. omega (arith, u.1)) (λ (u : Free F x). omega (arith, u.once_free)) (g.number x k)

  -- ---- the facts

  pub to_ring : (b : ℕ) → IsGroup n b → InUse F b → ¬ (O b) → Ring n F b
  to_ring b k u c = record {
    is_odd = (g.ring b k u).is_odd;
    three_or_more = (g.ring b k u).three_or_more;
    none_twice = (g.ring b k u).none_twice;
    each_in_use = λ x h. held_in_use x (λ z. is_known b k.1 (sym (g.below b x c h) ∙ z));
    each_names_it = λ x h. g.below b x c h;
    all_that_name_it = λ x e. rw e at (g.above x (λ z. is_known b k.1 (sym e ∙ z))).listed;
  }

  pub to_parent : (x : ℕ) → ParentInUse n F x
  to_parent x = ⊎_elim (λ e. inl e) (λ d. inr ((g.above x d).by_group, (g.above x d).in_use)) (same_or_not (parent F x) missing)

  pub to_node : (v : ℕ) → v < n → Placed n F v → Alone F v ⊎ Grouped n F v
  to_node v l p = ⊎_elim (λ k. inl (alone k)) (λ k. inr (grouped k)) (less_or_not (top_of F v) n)
    where
      own : top_of F v < n → v ≡ top_of F v
      own k = ⊎_elim (λ e. e) (λ m. absurd (node_childless (top_of F v) m.0 k m.2)) (last_move F.parents p.lies.0 v (top_of F v) p.lies.1)

      alone : top_of F v < n → Alone F v
      alone k = record { own_entry = sym (own k); no_parent = ap (parent F) (own k) ∙ p.upmost.no_parent }

      grouped : n ≤ top_of F v → Grouped n F v
      grouped k = record {
        is_group = (k, p.upmost.is_number);
        is_outermost = (p.upmost.in_use, p.upmost.no_parent);
        lies_in_it = p.lies;
        in_no_other = λ b i o w. one_top F.parents short w.0 p.lies.0 v b (top_of F v) w.1 p.lies.1 o.1 p.upmost.no_parent
            (is_known b i.1) (is_known (top_of F v) p.upmost.is_number);
      }

-- ---- the facts after a completed step

pub to_standing : (G : Graph) (s : State) → 2 * G.nodes ≤ missing → Ground G.nodes Nothing Nothing s.forest → FirstFree G.nodes s.forest
    → MateHolds G s.pairing.mates → Standing G s
to_standing G s fits g first m = record {
  nodes = λ v l. to_node fits g v l (placed_now v l);
  rings = λ b k u. to_ring fits g b k u (λ z. z);
  parents = λ x. to_parent fits g x;
  numbers = g.number;
  only_groups_free = g.free_group;
  first_free = first;
  mates = m;
}
  where
    placed_now : (v : ℕ) → v < G.nodes → Placed G.nodes s.forest v
    placed_now v l = ⊎_elim (λ p. p) (λ p. absurd p.1) (g.placed v l)
