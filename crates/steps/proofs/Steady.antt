-- THE THEOREM: what holds after each completed step. From every fresh start of one node or more, after each completed step, by any
-- re-rooting test (`steps_stand`): every node stands alone or lies in exactly one outermost group, as its entry in the outermost list
-- says; each group in use has an odd number of children, three or more, none twice, each a node or a group in use, just those numbers
-- that name it as parent; a parent is a group in use; each group number is in use or free, once, and a free one has no base, no
-- children and no parent; number n stands first among the free ones; and each mate names back (`Standing`, in specs/Standing.antt).
-- From `Standing` alone: at most (n - 1) / 2 groups are in use (`few_in_use`); a free number is always there (`free_left`); number n is
-- never taken (`first_never_taken`). And the run by the source's own test is our run, step for step (`same_run`, `same_step`).
-- FAULT causes, and no others: without the five tests of the definition that no rule names (specs/Listed) each step taken from a state on
-- the way is the same (`listed_step`: `listed.step turns G flag s ≡ step turns G flag s`), and so is the run (`listed_run`) and, for every
-- input at all, the plan call (`listed_plan`: `listed.plan room n edges flag budget ≡ plan room n edges flag budget`). So none of the five fails.
-- Nothing is asked of the edges. Of n it is asked that node and group numbers stay below `missing`: 2n is at most 65,535.
use Rattle.std.specs.Prelude.{if◌then◌else◌}
use mathlib.Core.Path.{◌≡◌, refl, sym, ap, ◌∙◌, subst}
use mathlib.Core.Bool.{Bool, true, false}
use mathlib.Core.Logic.{◌≢◌, ⊎_elim}
use mathlib.Core.List.{List, [], ◌∷◌}
use Prim.Native.Nat.{ℕ, zero, suc, ◌*◌, ◌-◌, ◌/◌, ◌≤◌}
use native.Mathlib.Omega.{arith}
use lib.Dec.{T, leb, ltb, leb→le, le→leb, ltb→lt, lt→ltb}
use Rattle.laws.specs.Times.{times}
use Rattle.laws.specs.Run.{Run, ok, fault}
use Rattle.laws.proofs.Times.{times_here}
use Rattle.laws.proofs.Kept.{kept_ok}
use Rattle.laws.proofs.Keeping.{Agree, agree, both_torn, agree_kept, agree_same, agree_at}
use Rattle.matching.specs.Graph.{Edge, Graph, graph_of, missing, is_group}
use Rattle.steps.specs.State.{State, start}
use Rattle.steps.specs.Steps.{step}
use Rattle.steps.specs.Refusals.{Intake, fine, refused, Room, intake}
use Rattle.steps.specs.Plan.{Ending, finished, spent, broken, is_ended, onward, run_by, run, plan_end, plan_fine, plan_after, plan}
use Rattle.steps.specs.Listed as listed
use Rattle.steps.specs.Standing.{InUse, Free, Standing, After, fresh, next, groups_in_use, source_turns, source_run}
use Rattle.steps.proofs.Frames.{Of}
use Rattle.steps.proofs.Ground.{to_standing}
use Rattle.steps.proofs.Count.{standing_counted, few_counted, free_there}
use Rattle.steps.proofs.Stepping.{Holding, stepped}
use Rattle.steps.proofs.Fresh.{fresh_holds}
use Rattle.steps.proofs.Accepted.{accepted}

module _ (G : Graph) (some : 1 ≤ G.nodes) (fits : 2 * G.nodes ≤ missing) where
  -- ---- what follows from `Standing` alone

  pub few_in_use : (s : State) → Standing G s → groups_in_use G s.forest ≤ (G.nodes - 1) / 2
  few_in_use s h = omega (arith, few_counted fits (standing_counted G s some h) G refl)

  pub free_left : (s : State) → Standing G s → s.forest.free ≢ []
  free_left s h = free_there fits (standing_counted G s some h)

  -- number n is the first of the free numbers, and so is not in use
  pub first_never_taken : (s : State) → Standing G s → ((l : List ℕ) × (s.forest.free ≡ G.nodes ∷ l)) × ¬ (InUse s.forest G.nodes)
  first_never_taken s h = (
    h.first_free,
    λ u. ⊎_elim
        (λ k. let no_way : ⊥ = omega (arith, k.1, ap (times G.nodes) h.first_free.1, times_here G.nodes h.first_free.0) in no_way)
        (λ (k : Free s.forest G.nodes). u k.no_base)
        (h.numbers G.nodes (omega arith, omega arith)),
  )

  -- ---- after each completed step

  module _ (turns : (n c : ℕ) → Bool) (flag : Bool) where
    -- one step
    pub step_holds : (s t : State) → Of (Holding G) s → step turns G flag s ≡ ok t → Of (Holding G) t
    step_holds s t h e = kept_ok (step turns G flag s) t (agree_kept (stepped G fits turns turns (λ c d. refl) flag s h)) e

    -- each state on the way
    after_holds : {k : ℕ} {s : State} → After turns G flag k s → Of (Holding G) s
    after_holds fresh = fresh_holds G fits some
    after_holds (next {s = s} {t = t} a e) = step_holds s t (after_holds a) e

    pub steps_stand : (k : ℕ) (s : State) → After turns G flag k s → Standing G s
    steps_stand k s a = let (f, m) = after_holds a in to_standing G s fits f.ground f.first m

    -- ---- where a run ends, it does so in such a state

    abbrev Through : Ending → Type 0
    Through (finished j t) = After turns G flag j t
    Through (spent j) = Unit {0}
    Through (broken j) = Unit {0}

    ended_here : (k : ℕ) (s : State) (e : Bool) (r : Ending) → After turns G flag k s → Through r → Through (if e then finished k s else r)
    ended_here k s true r a h = a
    ended_here k s false r a h = h

    one_further : (k : ℕ) (rest : State → Ending) (r : Run State) → ((t : State) → r ≡ ok t → Through (rest t)) → Through (onward k rest r)
    one_further k rest (ok t) h = h t refl
    one_further k rest fault h = tt

    passes : (left k : ℕ) (s : State) → After turns G flag k s → Through (run_by turns G flag left k s)
    unfolding run_by
    passes zero k s a = ended_here k s (is_ended s.progress.phase) (spent k) a tt
    passes (suc left) k s a = ended_here k s (is_ended s.progress.phase) _ a (one_further k _ (step turns G flag s)
        (λ t e. passes left (suc k) t (next a e)))

    pub end_passed : (budget j : ℕ) (t : State) → run_by turns G flag budget 0 (start G) ≡ finished j t → After turns G flag j t
    end_passed budget j t e = subst Through e (passes budget 0 (start G) fresh)

    pub end_stands : (budget j : ℕ) (t : State) → run_by turns G flag budget 0 (start G) ≡ finished j t → Standing G t
    end_stands budget j t e = steps_stand j t (end_passed budget j t e)

  -- ---- the source's own test

  same_test : (c : ℕ) → c ≢ G.nodes → source_turns G.nodes c ≡ is_group G.nodes c
  same_test c d = both_ways (ltb G.nodes c) (leb G.nodes c)
      (λ t. le→leb G.nodes c (omega (arith, ltb→lt G.nodes c t)))
      (λ t. lt→ltb G.nodes c (omega (arith, leb→le G.nodes c t)))
    where
      both_ways : (a b : Bool) → (T a → T b) → (T b → T a) → a ≡ b
      both_ways true true f g = refl
      both_ways true false f g = absurd (f tt)
      both_ways false true f g = absurd (g tt)
      both_ways false false f g = refl

  same_onward : (k : ℕ) (f g : State → Ending) (r r' : Run State) → Agree (Of (Holding G)) r r' → ((t : State) → Of (Holding G) t → f t ≡ g t)
      → onward k f r ≡ onward k g r'
  same_onward k f g r r' (agree {a = t} h) e = e t h
  same_onward k f g r r' both_torn e = refl

  -- the step by the source's test is that by ours
  by_source : (flag : Bool) (s : State) → Of (Holding G) s → Agree (Of (Holding G)) (step source_turns G flag s) (step is_group G flag s)
  by_source flag s h =
      let theirs = stepped G fits source_turns source_turns (λ c d. refl) flag s h in
      agree_at (sym (agree_same theirs) ∙ agree_same (stepped G fits source_turns is_group same_test flag s h)) (agree_kept theirs)

  same_from : (flag : Bool) (left k : ℕ) (s : State) → Of (Holding G) s → run_by source_turns G flag left k s ≡ run_by is_group G flag left k s
  unfolding run_by
  same_from flag zero k s h = refl
  same_from flag (suc left) k s h = ap (λ r. if is_ended s.progress.phase then finished k s else r)
      (same_onward k _ _ (step source_turns G flag s) (step is_group G flag s) (by_source flag s h) (λ t h. same_from flag left (suc k) t h))

  -- the run with `tmp > num_nodes` in the place of our test is the same run
  pub same_run : (flag : Bool) (budget : ℕ) → source_run G flag budget 0 (start G) ≡ run G flag budget 0 (start G)
  unfolding source_run run
  same_run flag budget = same_from flag budget 0 (start G) (fresh_holds G fits some)

  -- and each of its steps is the same step
  pub same_step : (flag : Bool) (k : ℕ) (s : State) → After is_group G flag k s → step source_turns G flag s ≡ step is_group G flag s
  same_step flag k s a = agree_same (by_source flag s (after_holds is_group flag a))

  -- ---- the causes of FAULT that are listed, and no others

  listed_from : (flag : Bool) (left k : ℕ) (s : State) → Of (Holding G) s → listed.run_by is_group G flag left k s ≡ run_by is_group G flag left k s
  unfolding listed.run_by run_by
  listed_from flag zero k s h = refl
  listed_from flag (suc left) k s h = ap (λ r. if is_ended s.progress.phase then finished k s else r)
      (same_onward k _ _ (listed.step is_group G flag s) (step is_group G flag s) (stepped G fits is_group is_group (λ c d. refl) flag s h) (λ t h.
      listed_from flag left (suc k) t h))

  -- each step that a run takes is the same without the five tests that no rule names
  pub listed_step : (turns : (n c : ℕ) → Bool) (flag : Bool) (k : ℕ) (s : State) → After turns G flag k s
      → listed.step turns G flag s ≡ step turns G flag s
  listed_step turns flag k s a = agree_same (stepped G fits turns turns (λ c d. refl) flag s (after_holds turns flag a))

  -- and so is the run
  pub listed_run : (flag : Bool) (budget : ℕ) → listed.run G flag budget 0 (start G) ≡ run G flag budget 0 (start G)
  unfolding listed.run run
  listed_run flag budget = listed_from flag budget 0 (start G) (fresh_holds G fits some)

-- ---- input that passes checks 1 to 6, with an edge at least

pub accepted_fits : (room : Room) (n : ℕ) (x : Edge) (xs : List Edge) → intake n (x ∷ xs) room ≡ fine → (1 ≤ n) × (2 * n ≤ missing)
accepted_fits room n x xs e = let a = accepted n (x ∷ xs) room e in (omega (arith, a.each_edge.0.first_node), omega (arith, a.few_nodes))

pub accepted_stands : (room : Room) (n : ℕ) (x : Edge) (xs : List Edge) → intake n (x ∷ xs) room ≡ fine → (flag : Bool) (k : ℕ) (s : State)
    → After is_group (graph_of n (x ∷ xs)) flag k s → Standing (graph_of n (x ∷ xs)) s
accepted_stands room n x xs e flag k s a = let (some, fits) = accepted_fits room n x xs e in steps_stand (graph_of n (x ∷ xs)) some fits is_group flag k s a

-- ---- the plan call, for every input at all: refused, with no edges or planned

module _ (room : Room) (n : ℕ) (flag : Bool) (budget : ℕ) where
  by_edges : (xs : List Edge) → intake n xs room ≡ fine
      → listed.plan_fine (graph_of n xs) flag budget room xs ≡ plan_fine (graph_of n xs) flag budget room xs
  unfolding listed.plan_fine plan_fine
  by_edges [] e = refl
  by_edges (x ∷ xs) e = let (some, fits) = accepted_fits room n x xs e in
      ap (plan_end (graph_of n (x ∷ xs)) flag room) (listed_run (graph_of n (x ∷ xs)) some fits flag budget)

  by_intake : (xs : List Edge) (i : Intake) → intake n xs room ≡ i
      → listed.plan_after (graph_of n xs) flag budget room i ≡ plan_after (graph_of n xs) flag budget room i
  unfolding listed.plan_after plan_after
  by_intake xs fine e = by_edges xs e
  by_intake xs (refused r) e = refl

  pub listed_plan : (edges : List Edge) → listed.plan room n edges flag budget ≡ plan room n edges flag budget
  unfolding listed.plan plan
  listed_plan edges = by_intake edges (intake n edges room) refl
