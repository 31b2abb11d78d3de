-- THE THEOREM: where the seven conditions hold, the matching that the mates describe is optimal (`certified_optimal`; `heaviest` and
-- `heaviest_of_its_size` say the same for each flag). By weak duality: a node's dual plus the offset, `lift`, is a natural. For each edge,
-- 2w + 2 offset is at most the lifts at its two ends plus twice the duals of the groups around it, and is that if the edge is matched
-- (`slack_parts`). Summed over a matching, the lifts come to at most those of all nodes, which are those of the mates' matching
-- (`lifts_bound`), and the duals to at most its own, since a group with a dual above 0 is full (`around_bound`).
use Rattle.std.specs.Prelude.{if◌then◌else◌}
use mathlib.Core.Path.{◌≡◌, ap, ◌∙◌}
use mathlib.Core.Bool.{Bool, true, false, not, ◌&&◌}
use mathlib.Core.Logic.{◌⊎◌, inl, inr, ⊎_elim}
use mathlib.Core.List.{List, [], ◌∷◌}
use Prim.Native.Nat.{ℕ, ◌+◌, ◌*◌, ◌<◌, ◌≤◌, zero-le}
use native.Mathlib.Nat.{eq-zero-or-pos, mul-le-mul_right}
use native.Mathlib.Omega.{arith}
use lib.Dec.{T, ltb, ltb→lt, nltb→le}
use lib.IntN.{ℤ, pos, neg_ℤ, ◌+ℤ◌, ◌-ℤ◌, ◌*ℤ◌}
use lib.Signed.{◌≤ℤ◌, ◌<ℤ◌, ≤ℤ_refl}
use lib.ListN.{length, get_or, take, length-take, get_or-eq_default}
use lib.Seq.{get_or-take}
use Rattle.laws.specs.Integers.{least}
use Rattle.laws.proofs.Integers.{up, down, parts, pos_parts, neg_parts, add_parts, sub_of_parts, double_parts, nonneg_parts, greater_ge, least_le}
use Rattle.laws.specs.Lists.{Each, sum, bit}
use Rattle.laws.proofs.Lists.{each, each_at, each_map, each_range, sum_le, sum_same, sum_zero, sum_times, sum_swap, total_parts}
use Rattle.matching.specs.Graph.{Graph, edge_count, first_of, second_of, weight_of, groups_of, missing, WellFormed}
use Rattle.matching.specs.Matching.{Matching, weight, Optimal}
use Rattle.matching.proofs.Packing.{ends, packed, covered, Reached}
use Rattle.matching.specs.Certificate.{Certificate, mate_of, dual_of, pairs, contains, inside, size, within, slack, group_duals, full_slack}
use Rattle.matching.specs.Certificate.{offset, DUAL, EDGE, TIGHT, FREE, FULL, MATE, Passes}
use Rattle.matching.proofs.Pairs.{pairs_known, pairs_matching, mated_reached}

-- ---- what is summed

-- a node's dual plus the offset, as a natural
lift : Graph → Bool → Certificate → ℕ → ℕ
lift G flag C v = up (dual_of C.duals v +ℤ offset G flag C.duals)

-- the duals of the groups that contain both ends of e, as naturals
around : Graph → Certificate → ℕ → ℕ
around G C e = sum (groups_of G) (λ B. bit (inside G C.parents B e) * up (dual_of C.duals B))

-- an edge's two sides, parted so that each is a natural: 2w + 2k, and the lifts at its ends plus twice the duals around it
weighed : Graph → ℕ → ℕ → ℕ
weighed G k e = 2 * up (weight_of G e) + 2 * k

paid : Graph → Bool → Certificate → ℕ → ℕ
paid G flag C e = 2 * down (weight_of G e) + ends G (lift G flag C) e + 2 * around G C e

sum_weighed : (G : Graph) (k : ℕ) (L : List ℕ) → sum L (weighed G k) ≡ 2 * sum L (λ e. up (weight_of G e)) + 2 * (length L * k)
unfolding sum weighed
sum_weighed G k [] = omega arith
sum_weighed G k (e ∷ es) = omega (arith, sum_weighed G k es)

sum_paid : (G : Graph) (flag : Bool) (C : Certificate) (L : List ℕ)
    → sum L (paid G flag C) ≡ 2 * sum L (λ e. down (weight_of G e)) + sum L (ends G (lift G flag C)) + 2 * sum L (around G C)
unfolding sum paid
sum_paid G flag C [] = omega arith
sum_paid G flag C (e ∷ es) = omega (arith, sum_paid G flag C es)

-- ---- facts that need no certificate

offset_nonneg : (G : Graph) (flag : Bool) (C : Certificate) → pos 0 ≤ℤ offset G flag C.duals
unfolding offset
offset_nonneg G true C = (greater_ge (pos 0) (neg_ℤ (least (take G.nodes C.duals)))).0
offset_nonneg G false C = ≤ℤ_refl (pos 0)

-- a matching with at least as many edges where there is a flag, and any where there is none, has the larger share of the offset
offset_share : (G : Graph) (flag : Bool) (C : Certificate) (a b : ℕ) → (T flag → a ≤ b) → a * up (offset G flag C.duals) ≤ b * up (offset G flag C.duals)
unfolding offset
offset_share G true C a b h = mul-le-mul_right (up (offset G true C.duals)) (h tt)
offset_share G false C a b h = omega (arith, ap (λ z. a * z) (pos_parts 0).0)

chosen_parts : (t : Bool) (z : ℤ) → down z ≡ 0 → (up (if t then z else pos 0) ≡ bit t * up z) × (down (if t then z else pos 0) ≡ 0)
chosen_parts true z h = omega arith
chosen_parts false z h = omega (arith, pos_parts 0)

two_bits : (x y : Bool) → bit (x && y) * 2 ≤ bit x + bit y
two_bits true true = omega arith
two_bits true false = zero-le
two_bits false y = zero-le

-- a matching's edges within a group have two nodes each, all different and all of the group
within_bound : (G : Graph) → WellFormed G → (C : Certificate) (B : ℕ) (L : List ℕ) → Matching G L → 2 * within G C.parents B L ≤ size G C.parents B
unfolding within size inside ends
within_bound G w C B L m =
    let f : ℕ → ℕ = λ e. bit (inside G C.parents B e) in
    let g : ℕ → ℕ = λ v. bit (contains G C.parents B v) in
    let both : (e : ℕ) → f e * 2 ≤ ends G g e = λ e. two_bits (contains G C.parents B (first_of G e)) (contains G C.parents B (second_of G e)) in
    omega (arith, sum_times f 2 L, sum_le (λ e. f e * 2) (ends G g) L (each both L), packed G w g L m)

-- ---- facts of a certificate

-- the least of the first n duals is at most each of these; a dual that is not there counts as 0
least_node : (G : Graph) (duals : List ℤ) (v : ℕ) → v < G.nodes → (least (take G.nodes duals) ≤ℤ dual_of duals v) ⊎ (dual_of duals v ≡ pos 0)
unfolding dual_of
least_node G duals v l = go (ltb v (length duals)) (ltb→lt v (length duals)) (nltb→le v (length duals))
  where
    m : ℤ
    m = least (take G.nodes duals)

    go : (t : Bool) → (T t → v < length duals) → (T (not t) → length duals ≤ v) → (m ≤ℤ get_or duals v (pos 0)) ⊎ (get_or duals v (pos 0) ≡ pos 0)
    go true f h =
        let k : v < length (take G.nodes duals) = rw (length-take G.nodes duals) (omega (arith, f tt)) in
        inl (rw (get_or-take G.nodes duals v (pos 0) l) at (each_at (λ b. m ≤ℤ b) (take G.nodes duals) v (pos 0) (least_le (take G.nodes duals)) k))
    go false f h = inr (get_or-eq_default duals (pos 0) (h tt))

lifted_nonneg : (G : Graph) (flag : Bool) (C : Certificate) → Passes G flag C → (v : ℕ) → v < G.nodes → pos 0 ≤ℤ (dual_of C.duals v +ℤ offset G flag C.duals)
unfolding offset
lifted_nonneg G true C c v l =
    let m = least (take G.nodes C.duals) in
    ⊎_elim
    (λ h. omega (arith, parts, h, (greater_ge (pos 0) (neg_ℤ m)).1, neg_parts m, pos_parts 0, add_parts (dual_of C.duals v) (offset G true C.duals)))
    (λ e. omega (arith, parts, ap up e, ap down e, (greater_ge (pos 0) (neg_ℤ m)).0, pos_parts 0, add_parts (dual_of C.duals v) (offset G true C.duals)))
    (least_node G C.duals v l)
lifted_nonneg G false C c v l =
    omega (arith, parts, (c DUAL v (omega arith)).of_node tt, pos_parts 0, add_parts (dual_of C.duals v) (pos 0))

module _ (G : Graph) (w : WellFormed G) (flag : Bool) (C : Certificate) (c : Passes G flag C) where
  -- u(v) + offset is the lift at each node v, and 0 at an unmatched one
  lift_parts : (v : ℕ) → v < G.nodes → lift G flag C v + down (dual_of C.duals v) ≡ up (dual_of C.duals v) + up (offset G flag C.duals)
  unfolding lift
  lift_parts v l =
      omega (arith, nonneg_parts (lifted_nonneg G flag C c v l), nonneg_parts (offset_nonneg G flag C), add_parts (dual_of C.duals v) (offset G flag C.duals))

  lift_free : (v : ℕ) → v < G.nodes → mate_of C.mates v ≡ missing → lift G flag C v ≡ 0
  unfolding lift
  lift_free v l e = ap up (c FREE v l e) ∙ (pos_parts 0).0

  -- the sum of the duals around e is `around`
  group_nonneg : Each (λ B. down (dual_of C.duals B) ≡ 0) (groups_of G)
  group_nonneg = each_range G.nodes G.nodes (λ B l h. nonneg_parts ((c DUAL B (omega arith)).of_group l))

  around_parts : (e : ℕ) → up (group_duals G C e) ≡ down (group_duals G C e) + around G C e
  unfolding group_duals around
  around_parts e =
      let f : ℕ → ℤ = λ B. if inside G C.parents B e then dual_of C.duals B else pos 0 in
      let g : ℕ → ℕ = λ B. bit (inside G C.parents B e) * up (dual_of C.duals B) in
      let none : sum (groups_of G) (λ B. down (f B)) ≡ 0 =
      sum_zero (λ B. down (f B)) (groups_of G) (each_map (λ B h. (chosen_parts (inside G C.parents B e) (dual_of C.duals B) h).1) (groups_of G) group_nonneg) in
      let same : sum (groups_of G) (λ B. up (f B)) ≡ sum (groups_of G) g =
      sum_same (λ B. up (f B)) g (groups_of G) (each_map (λ B h. (chosen_parts (inside G C.parents B e) (dual_of C.duals B) h).0) (groups_of G) group_nonneg) in
      omega (arith, total_parts f (groups_of G))

  -- the slack is what is paid less what is weighed
  slack_parts : (e : ℕ) → e < edge_count G → up (full_slack G C e) + weighed G (up (offset G flag C.duals)) e ≡ down (full_slack G C e) + paid G flag C e
  unfolding full_slack slack ends weighed paid
  slack_parts e l =
      let u = dual_of C.duals (first_of G e) in
      let x = dual_of C.duals (second_of G e) in
      let k = weight_of G e in
      let d = group_duals G C e in
      omega (
        arith,
        add_parts u x,
        sub_of_parts (u +ℤ x) (pos 2 *ℤ k),
        double_parts k,
        add_parts (u +ℤ x -ℤ pos 2 *ℤ k) (pos 2 *ℤ d),
        double_parts d,
        around_parts e,
        lift_parts (first_of G e) (w e l).first_node,
        lift_parts (second_of G e) (w e l).second_node,
      )

  -- any matching's edges weigh at most what is paid for them, and the mates' exactly that
  edges_bound : (L : List ℕ) → Matching G L → sum L (weighed G (up (offset G flag C.duals))) ≤ sum L (paid G flag C)
  edges_bound L m = sum_le (weighed G (up (offset G flag C.duals))) (paid G flag C) L
      (each_map (λ e l. omega (arith, parts, slack_parts e l, c EDGE e l, pos_parts 0)) L m.known)

  edges_exact : sum (pairs G C.mates) (weighed G (up (offset G flag C.duals))) ≡ sum (pairs G C.mates) (paid G flag C)
  edges_exact = sum_same (weighed G (up (offset G flag C.duals))) (paid G flag C) (pairs G C.mates)
      (each_map (λ e h. omega (arith, parts, slack_parts e h.0, c TIGHT e h.0 h.1, pos_parts 0)) (pairs G C.mates) (pairs_known G C.mates))

  -- no matching has more of the lifts than the mates'
  lifts_bound : (L : List ℕ) → Matching G L → sum L (ends G (lift G flag C)) ≤ sum (pairs G C.mates) (ends G (lift G flag C))
  lifts_bound L m =
      let f = lift G flag C in
      let reached : (v : ℕ) → v < G.nodes → (f v ≡ 0) ⊎ Reached G v (pairs G C.mates) = λ v l.
      ⊎_elim (λ e. inl (lift_free v l e)) (λ b. inr (mated_reached G C.mates v b)) (c MATE v l) in
      omega (arith, packed G w f L m, covered G w f (pairs G C.mates) (pairs_matching G C.mates).known reached)

  -- weighed by its dual, a group has at most as many edges of L within it as of the mates' matching
  group_bound : (L : List ℕ) → Matching G L → (B : ℕ) → G.nodes ≤ B → B < 2 * G.nodes
      → within G C.parents B L * up (dual_of C.duals B) ≤ within G C.parents B (pairs G C.mates) * up (dual_of C.duals B)
  group_bound L m B l h = ⊎_elim
      (λ z. omega (arith, ap (λ k. within G C.parents B L * k) z))
      (λ z. let f = c FULL B l h (above z) in mul-le-mul_right (up (dual_of C.duals B)) (omega (arith, within_bound G w C B L m, f.is_odd, f.is_filled)))
      (eq-zero-or-pos (up (dual_of C.duals B)))
    where
      above : 0 < up (dual_of C.duals B) → pos 0 <ℤ dual_of C.duals B
      above z = omega (arith, parts, pos_parts 0, nonneg_parts ((c DUAL B h).of_group l))

  -- so no matching has more of the groups' duals than the mates': the two sums, over edges and over groups, change places
  around_bound : (L : List ℕ) → Matching G L → sum L (around G C) ≤ sum (pairs G C.mates) (around G C)
  unfolding around within
  around_bound L m =
      let z : ℕ → ℕ = λ B. up (dual_of C.duals B) in
      let h : ℕ → ℕ → ℕ = λ e B. bit (inside G C.parents B e) * z B in
      let one_group : (B : ℕ) → G.nodes ≤ B → B < G.nodes + G.nodes → sum L (λ e. h e B) ≤ sum (pairs G C.mates) (λ e. h e B) = λ B l k.
      omega (
        arith,
        sum_times (λ e. bit (inside G C.parents B e)) (z B) L,
        sum_times (λ e. bit (inside G C.parents B e)) (z B) (pairs G C.mates),
        group_bound L m B l (omega arith),
      ) in
      omega (
        arith,
        sum_swap h L (groups_of G),
        sum_swap h (pairs G C.mates) (groups_of G),
        sum_le (λ B. sum L (λ e. h e B)) (λ B. sum (pairs G C.mates) (λ e. h e B)) (groups_of G) (each_range G.nodes G.nodes one_group),
      )

  no_heavier : (L : List ℕ) → Matching G L → (T flag → length (pairs G C.mates) ≤ length L) → weight G L ≤ℤ weight G (pairs G C.mates)
  unfolding weight
  no_heavier L m h =
      let M = pairs G C.mates in
      let k = up (offset G flag C.duals) in
      omega (
        arith,
        parts,
        edges_bound L m,
        edges_exact,
        sum_weighed G k L,
        sum_weighed G k M,
        sum_paid G flag C L,
        sum_paid G flag C M,
        lifts_bound L m,
        around_bound L m,
        offset_share G flag C (length M) (length L) h,
        total_parts (weight_of G) L,
        total_parts (weight_of G) M,
      )

-- ---- the theorem

pub certified_optimal : (G : Graph) → WellFormed G → (flag : Bool) (C : Certificate) → Passes G flag C → Optimal G flag (pairs G C.mates)
certified_optimal G w flag C c = record { is_matching = pairs_matching G C.mates; is_best = no_heavier G w flag C c }

-- without the flag no matching weighs more
pub heaviest : (G : Graph) → WellFormed G → (C : Certificate) → Passes G false C
    → (L : List ℕ) → Matching G L → weight G L ≤ℤ weight G (pairs G C.mates)
heaviest G w C c L m = no_heavier G w false C c L m (λ f. absurd f)

-- with the flag no matching with at least as many edges weighs more
pub heaviest_of_its_size : (G : Graph) → WellFormed G → (C : Certificate) → Passes G true C
    → (L : List ℕ) → Matching G L → length (pairs G C.mates) ≤ length L → weight G L ≤ℤ weight G (pairs G C.mates)
heaviest_of_its_size G w C c L m h = no_heavier G w true C c L m (λ f. h)
