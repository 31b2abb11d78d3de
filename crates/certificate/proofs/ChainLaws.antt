-- Chains: a group contains a node exactly if it stands in the node's chain; no group stands in a chain twice; two chains that share a
-- group share all from it to the top. So what is common of two chains is found from the top, and its duals are the sum over all groups.
use Rattle.std.specs.Prelude.{if◌then◌else◌}
use mathlib.Core.Path.{◌≡◌, refl, sym, ap, subst, ◌∙◌}
use mathlib.Core.Bool.{Bool, true, false, not, ◌&&◌, ◌||◌}
use mathlib.Core.Logic.{◌≢◌, ◌⊎◌, inl, inr, ⊎_elim}
use mathlib.Core.List.{List, [], ◌∷◌, ◌++◌}
use Prim.Native.Nat.{ℕ, zero, suc, ◌+◌, ◌*◌, ◌-◌, ◌<◌, ◌≤◌, zero-le}
use native.Mathlib.Nat.{eq-or-lt_of_le}
use native.Mathlib.Omega.{arith}
use borrow.Author.Tests.{eq-eqb, ne_eqb}
use lib.Dec.{T, eqb, eqb→eq, ltb, ltb→lt, nltb→le}
use lib.Ieee.Fits.{and_l, and_r, and_i}
use lib.IntN.{ℤ, pos, ◌+ℤ◌, +ℤ_idl, +ℤ_comm, +ℤ_assoc}
use lib.ListN.{length, get_or, drop, length-append, length-drop}
use lib.Seq.{drop-append-le, get_or-append-add}
use Rattle.laws.specs.Lists.{Each, member, range, total}
use Rattle.laws.proofs.Lists.{each_at}
use Rattle.matching.specs.Graph.{missing, is_missing}
use Rattle.matching.specs.Certificate.{parent_of, dual_of, meets}
use Rattle.matching.specs.Tests.{climb_ends}
use Rattle.certificate.specs.Chains.{chain, Named, Climbing, common_duals}
use Rattle.laws.proofs.Loops.{get_d_any, same_test, is_true}

-- ---- lists

-- no number is there twice
pub Distinct : List ℕ → Type 0
Distinct [] = Unit {0}
Distinct (x ∷ xs) = (T (member x xs) → ⊥) × Distinct xs

distinct_drop : (i : ℕ) (l : List ℕ) → Distinct l → Distinct (drop i l)
unfolding Distinct
distinct_drop zero l d = d
distinct_drop (suc i) [] d = tt
distinct_drop (suc i) (x ∷ xs) d = distinct_drop i xs d.1

pub each_drop : (P : ℕ → Type 0) (i : ℕ) (l : List ℕ) → Each P l → Each P (drop i l)
each_drop P zero l h = h
each_drop P (suc i) [] h = tt
each_drop P (suc i) (x ∷ xs) h = each_drop P i xs h.1

member_drop : (g i : ℕ) (l : List ℕ) → T (member g (drop i l)) → T (member g l)
unfolding member
member_drop g zero l h = h
member_drop g (suc i) [] h = h
member_drop g (suc i) (x ∷ xs) h = go (eqb x g) (member_drop g i xs h)
  where
    go : (t : Bool) → T (member g xs) → T (t || member g xs)
    go true m = tt
    go false m = m

member_later : (g : ℕ) (xs ys : List ℕ) → T (member g (xs ++ (g ∷ ys)))
unfolding member
member_later g [] ys = rw (eq-eqb g g refl) tt
member_later g (x ∷ xs) ys = go (eqb x g) (member_later g xs ys)
  where
    go : (t : Bool) → T (member g (xs ++ (g ∷ ys))) → T (t || member g (xs ++ (g ∷ ys)))
    go true m = tt
    go false m = m

-- ---- a chain

module _ (parents : List ℕ) where
  pub meets_member : (k i B : ℕ) → meets parents k i B ≡ member B (chain parents k i)
  unfolding meets chain member
  meets_member zero i B = refl
  meets_member (suc k) i B = go (is_missing (parent_of parents i)) (meets_member k (parent_of parents i) B)
    where
      go : (t : Bool) → meets parents k (parent_of parents i) B ≡ member B (chain parents k (parent_of parents i))
          → (not t && (eqb (parent_of parents i) B || meets parents k (parent_of parents i) B))
          ≡ member B (if t then [] else parent_of parents i ∷ chain parents k (parent_of parents i))
      go true e = refl
      go false e = rw e

  pub chain_length : (k i : ℕ) → length (chain parents k i) ≤ k
  unfolding chain
  chain_length zero i = zero-le
  chain_length (suc k) i = go (is_missing (parent_of parents i)) (chain_length k (parent_of parents i))
    where
      go : (t : Bool) → length (chain parents k (parent_of parents i)) ≤ k
          → length (if t then [] else parent_of parents i ∷ chain parents k (parent_of parents i)) ≤ suc k
      go true h = zero-le
      go false h = omega arith

  -- a chain that ends is the same for every bound that it ends in
  pub chain_same : (k j i : ℕ) → T (climb_ends parents k i) → T (climb_ends parents j i) → chain parents k i ≡ chain parents j i
  unfolding chain climb_ends
  chain_same zero zero i p q = refl
  chain_same zero (suc j) i p q = rw (is_true {t = is_missing (parent_of parents i)} p)
  chain_same (suc k) zero i p q = rw (is_true {t = is_missing (parent_of parents i)} q)
  chain_same (suc k) (suc j) i p q = go (is_missing (parent_of parents i)) (λ a b. chain_same k j (parent_of parents i) a b) p q
    where
      go : (t : Bool) → (T (climb_ends parents k (parent_of parents i)) → T (climb_ends parents j (parent_of parents i))
          → chain parents k (parent_of parents i) ≡ chain parents j (parent_of parents i))
          → T (t || climb_ends parents k (parent_of parents i)) → T (t || climb_ends parents j (parent_of parents i))
          → (if t then [] else parent_of parents i ∷ chain parents k (parent_of parents i))
          ≡ (if t then [] else parent_of parents i ∷ chain parents j (parent_of parents i))
      go true f a b = refl
      go false f a b = ap {B = List ℕ} (λ r. parent_of parents i ∷ r) (f a b)

  -- a group that stands in a chain is followed by its own chain
  record Split (l : List ℕ) (g : ℕ) : Type 0 where
    ahead : List ℕ
    moves : ℕ
    ends : T (climb_ends parents moves g)
    is : l ≡ ahead ++ (g ∷ chain parents moves g)

  split_later : (x g : ℕ) (l : List ℕ) → Split l g → Split (x ∷ l) g
  split_later x g l s = record { ahead = x ∷ s.ahead; moves = s.moves; ends = s.ends; is = ap {B = List ℕ} (λ r. x ∷ r) s.is }

  split : (k i g : ℕ) → T (climb_ends parents k i) → T (member g (chain parents k i)) → Split (chain parents k i) g
  unfolding chain climb_ends member
  split zero i g e m = absurd m
  split (suc k) i g e m = go (is_missing (parent_of parents i)) (λ a b. split k (parent_of parents i) g a b) e m
    where
      Rest : Type 0
      Rest = T (climb_ends parents k (parent_of parents i)) → T (member g (chain parents k (parent_of parents i)))
          → Split (chain parents k (parent_of parents i)) g

      there : (t : Bool) → (T t → parent_of parents i ≡ g) → Rest → T (climb_ends parents k (parent_of parents i))
          → T (t || member g (chain parents k (parent_of parents i)))
          → Split (parent_of parents i ∷ chain parents k (parent_of parents i)) g
      there true f r e m = record {
        ahead = [];
        moves = k;
        ends = subst (λ (x : ℕ). T (climb_ends parents k x)) (f tt) e;
        is = ap {B = List ℕ}
            (λ (x : ℕ). x ∷ chain parents k x) (f tt);
      }
      there false f r e m = split_later (parent_of parents i) g (chain parents k (parent_of parents i)) (r e m)

      go : (t : Bool) → Rest → T (t || climb_ends parents k (parent_of parents i))
          → T (member g (if t then [] else parent_of parents i ∷ chain parents k (parent_of parents i)))
          → Split (if t then [] else parent_of parents i ∷ chain parents k (parent_of parents i)) g
      go true r e m = absurd m
      go false r e m = there (eqb (parent_of parents i) g) (eqb→eq (parent_of parents i) g) r e m

  -- climbing that ends does not come back
  no_return : (k p : ℕ) → T (climb_ends parents k p) → T (member p (chain parents k p)) → ⊥
  no_return k p e m =
      let s = split k p p e m in
      let same : chain parents s.moves p ≡ chain parents k p = chain_same s.moves k p s.ends e in
      let long : length (chain parents k p) ≡ length s.ahead + length (p ∷ chain parents s.moves p) = ap length s.is
      ∙ length-append s.ahead (p ∷ chain parents s.moves p) in
      omega (arith, ap length same)

  pub chain_distinct : (k i : ℕ) → T (climb_ends parents k i) → Distinct (chain parents k i)
  unfolding chain climb_ends Distinct
  chain_distinct zero i e = tt
  chain_distinct (suc k) i e = go (is_missing (parent_of parents i)) (λ a. chain_distinct k (parent_of parents i) a) e
    where
      go : (t : Bool) → (T (climb_ends parents k (parent_of parents i)) → Distinct (chain parents k (parent_of parents i)))
          → T (t || climb_ends parents k (parent_of parents i)) → Distinct (if t then [] else parent_of parents i ∷ chain parents k (parent_of parents i))
      go true r e = tt
      go false r e = (no_return k (parent_of parents i) e, r e)

-- each of a chain is a group
module _ (n : ℕ) (parents : List ℕ) (named : Named n parents) where
  abbrev InGroups : ℕ → Type 0
  InGroups g = (n ≤ g) × (g < n + n)

  parent_read : (i : ℕ) → i < 2 * n → parent_of parents i ≡ get_or parents i 0
  unfolding parent_of
  parent_read i h = get_d_any parents i missing 0 (omega (arith, named.as_many))

  parent_group : (i : ℕ) → i < 2 * n → (T (is_missing (parent_of parents i)) → ⊥) → InGroups (parent_of parents i)
  parent_group i h there =
      let e = parent_read i h in
      let q : get_or parents i 0 ≡ missing → ⊥ = λ z. there (rw (e ∙ z) tt) in
      let r = named.is_group i h q in
      rw e (r.0, omega (arith, r.1))

  pub chain_groups : (k i : ℕ) → i < 2 * n → Each InGroups (chain parents k i)
  unfolding chain
  chain_groups zero i h = tt
  chain_groups (suc k) i h = go (is_missing (parent_of parents i)) (parent_group i h) (λ g. chain_groups k (parent_of parents i) (omega (arith, g.1)))
    where
      go : (t : Bool) → ((T t → ⊥) → InGroups (parent_of parents i)) → (InGroups (parent_of parents i)
          → Each InGroups (chain parents k (parent_of parents i))) → Each InGroups
          (if t then [] else parent_of parents i ∷ chain parents k (parent_of parents i))
      go true f r = tt
      go false f r = let g = f (λ z. z) in (g, r g)

-- ---- a sum over groups, of those that stand in a list

total_same : (f g : ℕ → ℤ) (s c : ℕ) → ((i : ℕ) → s ≤ i → f i ≡ g i) → total (range s c) f ≡ total (range s c) g
unfolding total range
total_same f g s zero h = refl
total_same f g s (suc c) h = rw (h s (omega arith), total_same f g (suc s) c (λ i l. h i (omega arith)))

past : (x y z : ℤ) → x +ℤ (y +ℤ z) ≡ y +ℤ (x +ℤ z)
past x y z = sym (+ℤ_assoc x y z) ∙ ap (λ (w : ℤ). w +ℤ z) (+ℤ_comm x y) ∙ +ℤ_assoc y x z

-- f is g but at x, where g is 0
total_one : (f g : ℕ → ℤ) (x s c : ℕ) → s ≤ x → x < s + c → g x ≡ pos 0 → ((i : ℕ) → i ≢ x → f i ≡ g i) → total (range s c) f ≡ f x +ℤ total (range s c) g
unfolding total range
total_one f g x s zero l h z o = let no_way : ⊥ = omega arith in absurd no_way
total_one f g x s (suc c) l h z o = go (eq-or-lt_of_le l) (λ (k : s < x). total_one f g x (suc s) c k (omega arith) z o)
  where
    go : (s ≡ x) ⊎ (s < x) → (s < x → total (range (suc s) c) f ≡ f x +ℤ total (range (suc s) c) g) → f s +ℤ total (range (suc s) c) f
        ≡ f x +ℤ (g s +ℤ total (range (suc s) c) g)
    go (inl e) r = rw (e, z, +ℤ_idl) (ap (λ (w : ℤ). f x +ℤ w) (total_same f g (suc x) c (λ i k. o i (λ q. omega arith))))
    go (inr k) r = rw (o s (λ q. omega arith), r k) (past (g s) (f x) (total (range (suc s) c) g))

module _ (n : ℕ) (d : ℕ → ℤ) where
  held : List ℕ → ℕ → ℤ
  held l B = if member B l then d B else pos 0

  none_held : (s c : ℕ) → total (range s c) (held []) ≡ pos 0
  unfolding held member total range
  none_held s zero = refl
  none_held s (suc c) = rw (none_held (suc s) c)

  pub total_held : (l : List ℕ) → Distinct l → Each (λ g. (n ≤ g) × (g < n + n)) l → total (range n n) (λ B. if member B l then d B else pos 0) ≡ total l d
  unfolding held total Distinct member
  total_held [] u h = none_held n n
  total_held (x ∷ xs) u h =
      total_one (held (x ∷ xs)) (held xs) x n n h.0.0 h.0.1 (out (member x xs) u.0) other
      ∙ rw (here) (ap (λ (w : ℤ). d x +ℤ w) (total_held xs u.1 h.1))
    where
      out : (t : Bool) → (T t → ⊥) → (if t then d x else pos 0) ≡ pos 0
      out true f = absurd (f tt)
      out false f = refl

      other : (i : ℕ) → i ≢ x → held (x ∷ xs) i ≡ held xs i
      other i q = rw (ne_eqb x i (λ e. q (sym e)))

      here : held (x ∷ xs) x ≡ d x
      here = rw (eq-eqb x x refl)

-- ---- two chains, compared from the top

-- from places i and j on they are the same, and ahead of these they part
pub record Parted (A B : List ℕ) (i j : ℕ) : Type 0 where
  pub first_in : i ≤ length A
  pub second_in : j ≤ length B
  pub same : drop i A ≡ drop j B
  pub apart : (i ≡ 0) ⊎ ((j ≡ 0) ⊎ (get_or A (i - 1) 0 ≢ get_or B (j - 1) 0))

module _ (parents : List ℕ) (k a b : ℕ) (ea : T (climb_ends parents k a)) (eb : T (climb_ends parents k b)) (i j : ℕ)
    (p : Parted (chain parents k a) (chain parents k b) i j) where
  as_many : length (chain parents k a) - i ≡ length (chain parents k b) - j
  as_many = sym (length-drop i (chain parents k a)) ∙ ap length p.same ∙ length-drop j (chain parents k b)

  module _ (g : ℕ) (pa pb : List ℕ) (l : List ℕ) (sa : chain parents k a ≡ pa ++ (g ∷ l)) (sb : chain parents k b ≡ pb ++ (g ∷ l)) where
    la : length (chain parents k a) ≡ length pa + suc (length l)
    la = ap length sa ∙ length-append pa (g ∷ l)

    lb : length (chain parents k b) ≡ length pb + suc (length l)
    lb = ap length sb ∙ length-append pb (g ∷ l)

    -- an entry of what is shared is the same in both
    entry : (x y d : ℕ) → x ≡ length pa + d → y ≡ length pb + d → get_or (chain parents k a) x 0 ≡ get_or (chain parents k b) y 0
    entry x y d ex ey = rw (sa, sb, ex, ey, get_or-append-add pa (g ∷ l) d 0, get_or-append-add pb (g ∷ l) d 0)

    -- so the place where they part lies ahead of what is shared
    ahead : i ≤ length pa
    ahead = go (ltb (length pa) i) (ltb→lt (length pa) i) (nltb→le (length pa) i)
      where
        never : length pa < i → ⊥
        never h =
            ⊎_elim
            (λ z. omega arith)
            (λ w. ⊎_elim (λ z. omega (arith, p.second_in, p.first_in, as_many, la, lb))
            (λ n. n (entry (i - 1) (j - 1) (i - 1 - length pa) (omega arith) (omega (arith, p.second_in, p.first_in, as_many, la, lb)))) w)
            p.apart

        go : (t : Bool) → (T t → length pa < i) → (T (not t) → i ≤ length pa) → i ≤ length pa
        go true f h = absurd (never (f tt))
        go false f h = h tt

    there : T (member g (drop i (chain parents k a)))
    there = rw (sa, drop-append-le i pa (g ∷ l) ahead) (member_later g (drop i pa) l)

  shared : (g : ℕ) → T (member g (chain parents k a)) → T (member g (chain parents k b)) → T (member g (drop i (chain parents k a)))
  shared g ma mb =
      let s = split parents k a g ea ma in
      let t = split parents k b g eb mb in
      let same = chain_same parents t.moves s.moves g t.ends s.ends in
      there g s.ahead t.ahead (chain parents s.moves g) s.is (t.is ∙ ap {B = List ℕ} (λ r. t.ahead ++ (g ∷ r)) same)

  pub both_member : (g : ℕ) → (member g (chain parents k a) && member g (chain parents k b)) ≡ member g (drop i (chain parents k a))
  both_member g = same_test (member g (chain parents k a) && member g (chain parents k b)) (member g (drop i (chain parents k a)))
      (λ t. shared g (and_l (member g (chain parents k a)) (member g (chain parents k b)) t)
      (and_r (member g (chain parents k a)) (member g (chain parents k b)) t))
      (λ t. and_i (member g (chain parents k a)) (member g (chain parents k b)) (member_drop g i (chain parents k a) t)
      (member_drop g j (chain parents k b) (subst (λ (l : List ℕ). T (member g l)) p.same t)))

-- the duals of what is shared are those of all groups that contain both
pub common_total : (n : ℕ) (parents : List ℕ) (duals : List ℤ) (a b i j : ℕ) → Climbing n parents → a < 2 * n → b < 2 * n
    → Parted (chain parents n a) (chain parents n b) i j
    → total (drop i (chain parents n a)) (dual_of duals) ≡ common_duals n duals parents a b
unfolding common_duals
common_total n parents duals a b i j c ha hb p =
    sym (total_held n (dual_of duals) (drop i (chain parents n a)) (distinct_drop i (chain parents n a) (chain_distinct parents n a (c.ends a ha)))
    (each_drop (λ g. (n ≤ g) × (g < n + n)) i (chain parents n a) (chain_groups n parents c.named n a ha)))
    ∙ total_same (λ B. if member B (drop i (chain parents n a)) then dual_of duals B else pos 0)
    (λ B. if meets parents n a B && meets parents n b B then dual_of duals B else pos 0) n n
    (λ B l. rw (meets_member parents n a B, meets_member parents n b B, both_member parents n a b (c.ends a ha) (c.ends b hb) i j p B))

-- an entry of a chain is a group
pub chain_entry : (n : ℕ) (parents : List ℕ) (v k : ℕ) → Climbing n parents → v < 2 * n → k < length (chain parents n v)
    → (n ≤ get_or (chain parents n v) k 0) × (get_or (chain parents n v) k 0 < 2 * n)
chain_entry n parents v k c h l =
    let g = each_at (λ g. (n ≤ g) × (g < n + n)) (chain parents n v) k 0 (chain_groups n parents c.named n v h) l in
    (g.0, omega (arith, g.1))
