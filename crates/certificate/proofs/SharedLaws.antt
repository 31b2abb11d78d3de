-- Two chains, compared from the top: what they share, and the sum of its duals, none of which is too large.
use mathlib.Core.Path.{◌≡◌, sym, ap, ◌∙◌}
use mathlib.Core.Logic.{◌≢◌, ◌⊎◌, inl, inr}
use mathlib.Core.List.{List, [], ◌∷◌}
use Prim.Native.Nat.{ℕ, suc, ◌*◌, ◌-◌, ◌<◌, ◌≤◌}
use native.Mathlib.Omega.{arith}
use lib.IntN.{ℤ, pos, nat_abs, ◌+ℤ◌, +ℤ_comm}
use lib.ListN.{length, get_or, drop, length-drop, drop_of_length-le}
use lib.Seq.{drop-cons}
use mir.Syntax.{w64}
use mir.Val.{SFits}
use Rattle.laws.specs.Lists.{Each, total}
use Rattle.laws.proofs.Integers.{abs_add, fits_near}
use Rattle.laws.proofs.Lists.{abs_total, each_map}
use Rattle.matching.specs.Certificate.{dual_of}
use Rattle.certificate.specs.Chains.{chain, Climbing, common_duals}
use Rattle.certificate.specs.Lists.{Near}
use Rattle.certificate.proofs.SlackLaws.{common_near}
use Rattle.certificate.proofs.ChainLaws.{chain_length, chain_groups, each_drop, chain_entry, common_total}

-- what lies from places i and j on is shared, and s is its sum
pub record Shared (n : ℕ) (parents : List ℕ) (duals : List ℤ) (a b i j : ℕ) (s : ℤ) : Type 0 where
  pub first_in : i ≤ length (chain parents n a)
  pub second_in : j ≤ length (chain parents n b)
  pub same : drop i (chain parents n a) ≡ drop j (chain parents n b)
  pub is_sum : s ≡ total (drop i (chain parents n a)) (dual_of duals)

module _ (n : ℕ) (parents : List ℕ) (duals : List ℤ) (a b : ℕ) (few : n ≤ 64) (climbing : Climbing n parents) (near : Near n duals) (ha : a < n) (hb : b < n)
  where
    pub shared_start : Shared n parents duals a b (length (chain parents n a)) (length (chain parents n b)) (pos 0)
    unfolding total
    shared_start =
        let ea : drop (length (chain parents n a)) (chain parents n a) ≡ [] = drop_of_length-le (chain parents n a) {i = length (chain parents n a)}
        (omega arith) in
        let eb : drop (length (chain parents n b)) (chain parents n b) ≡ [] = drop_of_length-le (chain parents n b) {i = length (chain parents n b)}
        (omega arith) in
        record { first_in = omega arith; second_in = omega arith; same = ea ∙ sym eb; is_sum = rw ea }

    module _ (i j : ℕ) (s : ℤ) (w : Shared n parents duals a b i j s) where
      parted : (i ≡ 0) ⊎ ((j ≡ 0) ⊎ (get_or (chain parents n a) (i - 1) 0 ≢ get_or (chain parents n b) (j - 1) 0)) → s ≡ common_duals n duals parents a b
      parted q = w.is_sum ∙ common_total n parents duals a b i j climbing (omega arith) (omega arith)
          (record { first_in = w.first_in; second_in = w.second_in; same = w.same; apart = q })

      dual_near : (x : ℕ) → x < 2 * n → nat_abs (dual_of duals x) ≤ 4503599627370496
      unfolding dual_of
      dual_near x h = near.is_small x h

      near_drop : (k : ℕ) → Each (λ x. nat_abs (dual_of duals x) ≤ 4503599627370496) (drop k (chain parents n a))
      near_drop k = each_drop (λ x. nat_abs (dual_of duals x) ≤ 4503599627370496) k (chain parents n a)
          (each_map (λ x g. dual_near x (omega (arith, g.1))) (chain parents n a) (chain_groups n parents climbing.named n a (omega arith)))

      pub sum_near : nat_abs s ≤ 64 * 4503599627370496
      sum_near = omega (
        arith,
        ap nat_abs w.is_sum,
        abs_total (dual_of duals) 4503599627370496 (drop i (chain parents n a)) (near_drop i),
        length-drop i (chain parents n a),
        chain_length parents n a,
      )

      pub stop_first : i ≡ 0 → s ≡ common_duals n duals parents a b
      stop_first e = parted (inl e)

      pub stop_second : j ≡ 0 → s ≡ common_duals n duals parents a b
      stop_second e = parted (inr (inl e))

      pub stop_apart : (get_or (chain parents n a) (i - 1) 0 ≢ get_or (chain parents n b) (j - 1) 0) → s ≡ common_duals n duals parents a b
      stop_apart d = parted (inr (inr d))

      module _ (hi : i ≡ 0 → ⊥) (hj : j ≡ 0 → ⊥) where
        pub shared_group : get_or (chain parents n a) (i - 1) 0 < 2 * n
        shared_group = (chain_entry n parents a (i - 1) climbing (omega arith) (omega (arith, w.first_in))).1

        first_more : drop (i - 1) (chain parents n a) ≡ get_or (chain parents n a) (i - 1) 0 ∷ drop i (chain parents n a)
        first_more = let e : suc (i - 1) ≡ i = omega arith in rw (drop-cons (chain parents n a) (i - 1) 0 (omega (arith, w.first_in)), e)

        second_more : drop (j - 1) (chain parents n b) ≡ get_or (chain parents n b) (j - 1) 0 ∷ drop j (chain parents n b)
        second_more = let e : suc (j - 1) ≡ j = omega arith in rw (drop-cons (chain parents n b) (j - 1) 0 (omega (arith, w.second_in)), e)

        -- the sum with the next dual
        abbrev pub More : ℤ
        More = s +ℤ dual_of duals (get_or (chain parents n a) (i - 1) 0)

        pub shared_next : get_or (chain parents n a) (i - 1) 0 ≡ get_or (chain parents n b) (j - 1) 0 → Shared n parents duals a b (i - 1) (j - 1) More
        unfolding total
        shared_next e = record {
          first_in = omega (arith, w.first_in);
          second_in = omega (arith, w.second_in);
          same = rw (first_more, second_more, e, w.same);
          is_sum = rw first_more (+ℤ_comm s (dual_of duals (get_or (chain parents n a) (i - 1) 0))
              ∙ ap (λ (z : ℤ). dual_of duals (get_or (chain parents n a) (i - 1) 0) +ℤ z) w.is_sum);
        }

        pub shared_fits : SFits w64 More
        shared_fits =
            fits_near More (omega (
              arith,
              abs_add s (dual_of duals (get_or (chain parents n a) (i - 1) 0)),
              dual_near (get_or (chain parents n a) (i - 1) 0)
                  shared_group,
              sum_near,
            ))

pub ruleset shared = (shared_start, stop_first, stop_second, stop_apart, shared_group, shared_next, shared_fits, common_near)
