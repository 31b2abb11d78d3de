-- The least of a list by the library's order, what is below the least amount so far, and the last amount.
use Rattle.std.proofs.Common.{◌≡◌, refl, sym, ap, arith, Bool, true, false, cond, ℕ, ◌+◌, ◌<◌, ◌≤◌, ℤ, pos, take, drop, List, [], ◌∷◌, Option}
use Rattle.std.proofs.Common.{length, get_or, add-one}
use lib.Signed.{lt_z}
use lib.ListN.{drop_of_length-le, length-take}
use lib.Seq.{drop-cons, get_or-take}
use Rattle.std.specs.Int.{int_max}
use Rattle.std.specs.List.{fold, reduce}
use Rattle.std.specs.Option.{ok_or}
use Rattle.std.specs.Ordering.{int_cmp, min_by_ordering}
use Rattle.std.specs.declared.cmp.Ordering.TheVariants.{Less, Equal, Greater}
use Rattle.std.proofs.lemmas.Int.{ints, int_max_is}
use Rattle.laws.specs.Integers.{lesser, greater, least_from}
use Rattle.laws.specs.Run.{Run, ok}
use Rattle.numbers.specs.declared.faults.Fault.{Fault}
use Rattle.numbers.specs.Answers.{Answers}
use Rattle.matching.specs.Graph.{Graph}
use Rattle.steps.specs.State.{State}
use Rattle.stages.specs.Deltas.{typed}
use Rattle.stages.specs.declared.delta.By.{By}
use Rattle.stages.specs.declared.delta.By.TheVariants.{One, Two, Three, Four}
use Rattle.steps.specs.Adjust.{less_than, no_delta, type1, least_dual, delta_last}

max_is : (a : ℤ) → greater (pos 0) a ≡ int_max a (pos 0)
unfolding greater
max_is a = by (lt_z (pos 0) a) refl
  where
    by : (t : Bool) → lt_z (pos 0) a ≡ t → cond t a (pos 0) ≡ int_max a (pos 0)
    by true e = omega (arith, ints, int_max_is a (pos 0))
    by false e = omega (arith, ints, int_max_is a (pos 0))

-- ---- the least of a list

-- the library's lesser of two
picked : (a b : ℤ) → min_by_ordering (int_cmp a b) a b ≡ lesser a b
unfolding lesser
picked a b = by (lt_z a b) (lt_z b a) refl refl
  where
    by : (t u : Bool) → lt_z a b ≡ t → lt_z b a ≡ u → min_by_ordering (cond t Less (cond u Greater Equal)) a b ≡ cond u b a
    by true true e f = grind (arith, ints)
    by true false e f = refl
    by false true e f = refl
    by false false e f = refl

folded : (a : ℤ) (bs : List ℤ) → fold (λ p z. min_by_ordering (int_cmp p z) p z) a bs ≡ least_from a bs
unfolding least_from
folded a [] = refl
folded a (b ∷ bs) = rw (picked a b) (folded (lesser a b) bs)

pub least_told : (ds : List ℤ) (r : Option ℤ) (e : Fault) → r ≡ reduce (λ p z. min_by_ordering (int_cmp p z) p z) ds → Answers (least_dual ds) (ok_or r e)
unfolding least_dual
least_told [] r e h = rw h refl
least_told (d ∷ ds) r e h = rw h (ap ok (sym (folded d ds)))

-- one entry after the other of the first n of a list
module _ (l : List ℤ) (n : ℕ) where
  pub least_next : {whole : Run ℤ} (d : ℤ) (v : ℕ) → v < n → n ≤ length l → whole ≡ ok (least_from d (drop v (take n l)))
      → whole ≡ ok (least_from (lesser d (get_or l v (pos 0))) (drop (v + 1) (take n l)))
  unfolding least_from
  least_next d v h k e =
      let m : v < length (take n l) = rw (length-take n l) (omega arith) in
      rw (← get_or-take n l v (pos 0) h, add-one) (rw (drop-cons (take n l) v (pos 0) m) at e)

  pub least_end : {whole : Run ℤ} (d : ℤ) (v : ℕ) → n ≤ v → whole ≡ ok (least_from d (drop v (take n l))) → ok d ≡ whole
  unfolding least_from
  least_end d v h e =
      let m : length (take n l) ≤ v = rw (length-take n l) (omega arith) in
      sym (rw (drop_of_length-le (take n l) m) at e)

-- ---- below the least amount so far

pub below_typed : (d a : ℤ) (by : By) → less_than d (typed by a) ≡ lt_z d a
below_typed d a One = refl
below_typed d a (Two e) = refl
below_typed d a (Three e) = refl
below_typed d a (Four b) = refl

pub ruleset belows = (below_typed)

-- no candidate under the flag
pub last_least : (G : Graph) (s : State) (d : ℤ) → least_dual (take G.nodes s.pairing.duals) ≡ ok d → delta_last G s no_delta ≡ ok (type1 (int_max d (pos 0)))
unfolding delta_last
last_least G s d h = rw (h, max_is d)
