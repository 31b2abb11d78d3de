-- The plan call on three parallel lists, by what is refused and whether there are edges; the lent lists are cleared first.
use Rattle.std.specs.Prelude.{if◌then◌else◌}
use mathlib.Core.Path.{◌≡◌, refl, sym, ap, ◌∙◌}
use mathlib.Core.Bool.{Bool, true, false}
use mathlib.Core.List.{List, [], ◌∷◌}
use Prim.Native.Nat.{ℕ, ◌<◌}
use native.Mathlib.Omega.{arith}
use lib.IntN.{ℤ, pos}
use lib.ListN.{length, replicate, length-replicate}
use Rattle.matching.specs.Graph.{Edge, edges_from, missing}
use Rattle.steps.specs.Refusals.{Refusal, Intake, fine, refused, Room, intake}
use Rattle.steps.specs.State.{start}
use Rattle.steps.specs.Plan.{Answer, DONE, REFUSED, Plan, cleared, run, plan_end, plan_fine, plan_after, plan}
use Rattle.certificate.specs.Lists.{lent, room, same_length, unequal, intake_lists}
use Rattle.certificate.proofs.IntakeLaws.{edges_length}
use Rattle.certificate.proofs.JudgeLaws.{taken_in, known, weighed}
use Rattle.plan.specs.Lists.{Cleared}
use Rattle.plan.specs.View.{plan_lists}

module _ (n : ℕ) (xs ys : List ℕ) (zs : List ℤ) (flag : Bool) (budget : ℕ) (r : Room) where
  is_refused : (s : Refusal) → refused s ≡ intake_lists n xs ys zs r → cleared r (REFUSED s) 0 ≡ plan_lists r n xs ys zs flag budget
  unfolding plan_lists plan intake_lists plan_after
  is_refused s h = go (same_length xs ys zs) (intake n (edges_from xs ys zs) r) h
    where
      after : (i : Intake) → refused s ≡ i → cleared r (REFUSED s) 0 ≡ plan_after (lent n xs ys zs) flag budget r i
      after fine h = cc
      after (refused t) h = cc

      go : (t : Bool) (i : Intake) → refused s ≡ (if t then i else refused (unequal n (length xs)))
          → cleared r (REFUSED s) 0 ≡ (if t then plan_after (lent n xs ys zs) flag budget r i else cleared r (REFUSED (unequal n (length xs))) 0)
      go true i h = after i h
      go false i h = cc

  module _ (h : fine ≡ intake_lists n xs ys zs r) where
    is_fine : plan_fine (lent n xs ys zs) flag budget r (edges_from xs ys zs) ≡ plan_lists r n xs ys zs flag budget
    unfolding plan_lists plan intake_lists plan_after
    is_fine = go (same_length xs ys zs) (intake n (edges_from xs ys zs) r) h
      where
        go : (t : Bool) (i : Intake) → fine ≡ (if t then i else refused (unequal n (length xs)))
            → plan_fine (lent n xs ys zs) flag budget r (edges_from xs ys zs)
            ≡ (if t then plan_after (lent n xs ys zs) flag budget r i else cleared r (REFUSED (unequal n (length xs))) 0)
        go true fine h = refl
        go true (refused s) h = cc
        go false i h = cc

    count : length (edges_from xs ys zs) ≡ length xs
    count = edges_length xs ys zs (known n xs ys zs r h).seconds (weighed n xs ys zs r h).weights

    no_edges : length xs ≡ 0 → cleared r DONE 0 ≡ plan_lists r n xs ys zs flag budget
    unfolding plan_fine
    no_edges z = go (edges_from xs ys zs) (count ∙ z) ∙ is_fine
      where
        go : (es : List Edge) → length es ≡ 0 → cleared r DONE 0 ≡ plan_fine (lent n xs ys zs) flag budget r es
        go [] z = refl
        go (e ∷ es) z = let no_way : ⊥ = omega arith in absurd no_way

    some_edges : 0 < length xs
        → plan_end (lent n xs ys zs) flag r (run (lent n xs ys zs) flag budget 0 (start (lent n xs ys zs))) ≡ plan_lists r n xs ys zs flag budget
    unfolding plan_fine
    some_edges l = go (edges_from xs ys zs) (omega (arith, count)) ∙ is_fine
      where
        go : (es : List Edge) → 0 < length es
            → plan_end (lent n xs ys zs) flag r (run (lent n xs ys zs) flag budget 0 (start (lent n xs ys zs)))
            ≡ plan_fine (lent n xs ys zs) flag budget r es
        go [] l = let no_way : ⊥ = omega arith in absurd no_way
        go (e ∷ es) l = refl

-- ---- lists of so many entries, which were cleared

as_long : {A : Type 0} {l : List A} (k : ℕ) (v : A) → l ≡ replicate k v → length l ≡ k
as_long k v q = ap length q ∙ length-replicate k v

pub still_cleared : {A : Type 0} {l : List A} (k : ℕ) (v : A) → l ≡ replicate k v → l ≡ replicate (length l) v
still_cleared k v q = q ∙ ap (λ (i : ℕ). replicate i v) (sym (as_long k v q))

module _ (M D P : ℕ) {m p : List ℕ} {d : List ℤ} (a : m ≡ replicate M missing) (b : d ≡ replicate D (pos 0)) (e : p ≡ replicate P missing) where
  pub same_room : room (length m) (length d) (length p) ≡ room M D P
  same_room = rw (as_long M missing a, as_long D (pos 0) b, as_long P missing e)

  all_cleared : (x : Answer) → ◌≡◌ {A = Plan} (record { answer = x; steps = 0; mates = m; duals = d; parents = p }) (cleared (room M D P) x 0)
  unfolding cleared
  all_cleared x = rw (a, b, e)

  module _ (n : ℕ) (xs ys : List ℕ) (zs : List ℤ) where
    pub lists_cleared : fine ≡ intake_lists n xs ys zs (room (length m) (length d) (length p)) → Cleared n m d p
    lists_cleared h =
        let t = taken_in n xs ys zs (room (length m) (length d) (length p)) h in
        record {
          mates_fit = t.mates_fit;
          duals_fit = t.duals_fit;
          parents_fit = t.parents_fit;
          no_mates = still_cleared M missing a;
          no_duals = still_cleared D (pos 0) b;
          no_parents = still_cleared P missing e;
        }

    module _ (flag : Bool) (budget : ℕ) where
      pub refused_plan : (s : Refusal) → refused s ≡ intake_lists n xs ys zs (room (length m) (length d) (length p))
          → ◌≡◌ {A = Plan} (record { answer = REFUSED s; steps = 0; mates = m; duals = d; parents = p })
          (plan_lists (room M D P) n xs ys zs flag budget)
      refused_plan s h = all_cleared (REFUSED s) ∙ is_refused n xs ys zs flag budget _ s (h ∙ ap (intake_lists n xs ys zs) same_room)

      pub empty_plan : fine ≡ intake_lists n xs ys zs (room (length m) (length d) (length p)) → length xs ≡ 0
          → ◌≡◌ {A = Plan} (record { answer = DONE; steps = 0; mates = m; duals = d; parents = p }) (plan_lists (room M D P) n xs ys zs flag budget)
      empty_plan h z = all_cleared DONE ∙ no_edges n xs ys zs flag budget _ (h ∙ ap (intake_lists n xs ys zs) same_room) z

      pub edges_plan : fine ≡ intake_lists n xs ys zs (room (length m) (length d) (length p)) → 0 < length xs
          → plan_end (lent n xs ys zs) flag (room (length m) (length d) (length p)) (run (lent n xs ys zs) flag budget 0 (start (lent n xs ys zs)))
          ≡ plan_lists (room M D P) n xs ys zs flag budget
      edges_plan h l =
          ap (λ (r : Room). plan_end (lent n xs ys zs) flag r (run (lent n xs ys zs) flag budget 0 (start (lent n xs ys zs)))) same_room
          ∙ some_edges n xs ys zs flag budget _ (h ∙ ap (intake_lists n xs ys zs) same_room) l
