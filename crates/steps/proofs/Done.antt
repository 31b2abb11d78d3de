-- THE THEOREM: a plan that answers DONE is optimal. For every n, edge list, flag and budget, and lent lists of any length: where the
-- plan call answers DONE, the edges that its mates name are a matching, and no matching weighs more; with the flag, no matching of at
-- least as many edges does. `Optimal`, in `matching`, says just that. Nothing else is assumed.
use mathlib.Core.Path.{◌≡◌, refl, sym, subst}
use mathlib.Core.Bool.{Bool}
use mathlib.Core.List.{List, [], ◌∷◌, ◌++◌}
use Prim.Native.Nat.{ℕ, ◌-◌, ◌≤◌}
use native.Mathlib.Omega.{arith}
use lib.Dec.{T}
use lib.ListN.{length, replicate}
use lib.Signed.{◌≤ℤ◌, ≤ℤ_refl}
use Rattle.laws.specs.Lists.{keep, range}
use Rattle.laws.proofs.Lists.{keep_same, get_or_padded}
use Rattle.matching.specs.Graph.{Edge, Graph, graph_of, edges_of, first_of, second_of, missing, WellFormed}
use Rattle.matching.specs.Matching.{Matching, weight, Optimal}
use Rattle.matching.specs.Certificate.{Certificate, mate_of, matched, pairs}
use Rattle.matching.specs.Tests.{Verdict, YES, NO, verdict}
use Rattle.matching.proofs.Decided.{yes_optimal}
use Rattle.matching.proofs.Pairs.{pairs_matching}
use Rattle.steps.specs.State.{start}
use Rattle.steps.specs.Refusals.{Intake, fine, refused, Room, intake}
use Rattle.steps.specs.Plan.{Answer, DONE, STEPS, FAULT, REFUSED, Ending, finished, spent, broken, run, Plan, cleared, filled, certificate_of}
use Rattle.steps.specs.Plan.{certified, plan_end, plan_fine, plan_after, plan}
use Rattle.steps.proofs.Accepted.{accepted, accepted_well_formed}

IsDone : Answer → Type 0
IsDone DONE = Unit {0}
IsDone STEPS = ⊥
IsDone FAULT = ⊥
IsDone (REFUSED r) = ⊥

-- ---- the lent list may be longer than n: what follows is missing and names no pair

padded_matched : (G : Graph) (mates : List ℕ) (k e : ℕ) → matched G mates e ≡ matched G (mates ++ replicate k missing) e
unfolding matched mate_of
padded_matched G mates k e =
    rw (get_or_padded mates k (first_of G e) missing, get_or_padded mates k (second_of G e) missing)

padded_pairs : (G : Graph) (mates : List ℕ) (k : ℕ) → pairs G mates ≡ pairs G (mates ++ replicate k missing)
unfolding pairs
padded_pairs G mates k =
    keep_same (matched G mates) (matched G (mates ++ replicate k missing)) (padded_matched G mates k) (edges_of G)

-- ---- with no edges no matching has any

no_edges_optimal : (n : ℕ) (flag : Bool) (mates : List ℕ) → Optimal (graph_of n []) flag (pairs (graph_of n []) mates)
unfolding pairs keep range
no_edges_optimal n flag mates = record { is_matching = pairs_matching (graph_of n []) mates; is_best = best }
  where
    best : (L : List ℕ) → Matching (graph_of n []) L → (T flag → length (pairs (graph_of n []) mates) ≤ length L)
        → weight (graph_of n []) L ≤ℤ weight (graph_of n []) (pairs (graph_of n []) mates)
    best [] m h = ≤ℤ_refl (weight (graph_of n []) [])
    best (e ∷ es) m h = let no_way : ⊥ = omega (arith, m.known.0) in absurd no_way

-- ---- from the end of the call to its beginning

abbrev Good : Graph → Bool → Plan → Type 0
Good G flag p = IsDone p.answer → Optimal G flag (pairs G p.mates)

module _ (G : Graph) (w : WellFormed G) (flag : Bool) (room : Room) where
  judged_good : (steps : ℕ) (C : Certificate) (v : Verdict) → verdict G flag C ≡ v → Good G flag (certified G.nodes room steps C v)
  unfolding certified filled cleared IsDone
  judged_good steps C YES e d = subst (λ M. Optimal G flag M) (padded_pairs G C.mates (room.mates - G.nodes)) (yes_optimal G w flag C e)
  judged_good steps C (NO c) e d = absurd d

  end_good : (r : Ending) → Good G flag (plan_end G flag room r)
  unfolding plan_end cleared IsDone
  end_good (finished steps s) d = judged_good steps (certificate_of s) (verdict G flag (certificate_of s)) refl d
  end_good (spent steps) d = absurd d
  end_good (broken steps) d = absurd d

fine_good : (flag : Bool) (budget : ℕ) (room : Room) (n : ℕ) (edges : List Edge) → WellFormed (graph_of n edges)
    → Good (graph_of n edges) flag (plan_fine (graph_of n edges) flag budget room edges)
unfolding plan_fine cleared
fine_good flag budget room n [] w d = no_edges_optimal n flag (replicate room.mates missing)
fine_good flag budget room n (x ∷ xs) w d =
    let G : Graph = graph_of n (x ∷ xs) in end_good G w flag room (run G flag budget 0 (start G)) d

module _ (n : ℕ) (edges : List Edge) (flag : Bool) (budget : ℕ) (room : Room) where
  after_good : (i : Intake) → intake n edges room ≡ i → Good (graph_of n edges) flag (plan_after (graph_of n edges) flag budget room i)
  unfolding plan_after cleared IsDone
  after_good fine e d = fine_good flag budget room n edges (accepted_well_formed n edges (accepted n edges room e).each_edge) d
  after_good (refused r) e d = absurd d

pub done_optimal : (room : Room) (n : ℕ) (edges : List Edge) (flag : Bool) (budget : ℕ) → (plan room n edges flag budget).answer ≡ DONE
    → Optimal (graph_of n edges) flag (pairs (graph_of n edges) (plan room n edges flag budget).mates)
unfolding plan IsDone
done_optimal room n edges flag budget e =
    after_good n edges flag budget room (intake n edges room) refl (subst IsDone (sym e) tt)
