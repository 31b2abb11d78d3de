-- A child's own list, or the edges of its nodes; the nodes of a group are nodes.
use Rattle.std.proofs.Common.{if◌then◌else◌, ◌≡◌, ◌≢◌, ◌<◌, ◌∙◌, List, [], ◌∷◌, ◌++◌, ℕ, zero, suc, Bool, true, false}
use Rattle.std.proofs.Common.{ltb, length, refl, arith, Result, Ok, Err}
use lib.Dec.{T, ltb→lt}
use Rattle.laws.specs.Lists.{Each}
use Rattle.laws.specs.Run.{Run, ok, fault, ◌>>=◌, and_then, for_each, at, push}
use Rattle.laws.proofs.Kept.{Kept, kept, torn, kept_bind, kept_for_each}
use Rattle.matching.specs.Graph.{Graph, missing}
use Rattle.steps.specs.Ends.{far_ends}
use Rattle.steps.specs.Leaves.{leaves}
use Rattle.steps.specs.State.{State}
use Rattle.steps.specs.Add.{Link, Gathered, consider, consider_at, consider_child, gather}
use Rattle.steps.specs.Stores.{put_best_list, put_best}
use Rattle.numbers.specs.declared.faults.Fault.{Fault}
use Rattle.numbers.specs.Answers.{Agrees}
use Rattle.grouping.specs.Parts.{consider_own, at_end, gathered}

module _ (G : Graph) (s : State) (new c : ℕ) (links : List Link) where
  pub own_out : at s.labelling.best_lists c ≡ fault → consider_own G s new c links ≡ fault
  unfolding consider_own
  own_out e = rw e

  pub own_none : (own : List ℕ) → at s.labelling.best_lists c ≡ ok own → length own ≡ 0 → consider_own G s new c links ≡ consider_child G s new c [] links
  unfolding consider_own
  own_none [] e h = rw e
  own_none (x ∷ xs) e h = absurd (omega (arith, h))

  pub own_some : (own : List ℕ) → at s.labelling.best_lists c ≡ ok own → length own ≢ 0 → consider_own G s new c links ≡ for_each (consider G s new) own links
  unfolding consider_own consider_child
  own_some [] e h = absurd (h refl)
  own_some (x ∷ xs) e h = rw e

pub ruleset children = (own_out, own_none, own_some)

pub at_ends : (G : Graph) (s : State) (new v : ℕ) (links : List Link) → consider_at G s new v links ≡ for_each (at_end G s new) (far_ends G v) links
unfolding consider_at at_end
at_ends G s new v links = refl

pub ruleset ends = (at_ends)

-- ---- the nodes of a group are nodes

module _ (n cap : ℕ) (rows : List (List ℕ)) where
  each_snoc : (out : List ℕ) (b : ℕ) → b < n → Each (λ v. v < n) out → Each (λ v. v < n) (out ++ (b ∷ []))
  each_snoc [] b l h = (l, tt)
  each_snoc (x ∷ xs) b l h = (h.0, each_snoc xs b l h.1)

  pushed : (out : List ℕ) (b : ℕ) → b < n → Each (λ v. v < n) out → Kept (Each (λ v. v < n)) (push cap b out)
  unfolding push
  pushed out b l h = go (ltb (length out) cap)
    where
      go : (t : Bool) → Kept (Each (λ v. v < n)) (if t then ok (out ++ (b ∷ [])) else fault)
      go true = kept (each_snoc out b l h)
      go false = torn

  any : {A : Type 0} (r : Run A) → Kept (λ a. Unit {0}) r
  any (ok a) = kept tt
  any fault = torn

  pub leaves_nodes : (depth b : ℕ) (out : List ℕ) → Each (λ v. v < n) out → Kept (Each (λ v. v < n)) (leaves n cap rows depth b out)
  unfolding leaves
  leaves_nodes zero b out h = go (ltb b n) (ltb→lt b n)
    where
      go : (t : Bool) → (T t → b < n) → Kept (Each (λ v. v < n)) (if t then push cap b out else fault)
      go true l = pushed out b (l tt) h
      go false l = torn
  leaves_nodes (suc depth) b out h = go (leaves_nodes depth) (ltb b n) (ltb→lt b n)
    where
      go : ((c : ℕ) (out : List ℕ) → Each (λ v. v < n) out → Kept (Each (λ v. v < n)) (leaves n cap rows depth c out)) → (t : Bool) → (T t → b < n)
          → Kept (Each (λ v. v < n)) (if t then push cap b out else (at rows b >>= λ kids. for_each (λ c out. leaves n cap rows depth c out) kids out))
      go rest true l = pushed out b (l tt) h
      go rest false l = kept_bind (any (at rows b)) (λ kids _. kept_for_each (λ c out k. rest c out k) kids h)

-- ---- a child gathered

module _ (G : Graph) (new c : ℕ) (links : List Link) (s : State) where
  abbrev after : List Link → Run Gathered
  after links = put_best_list c [] s >>= λ s. put_best c missing s >>= λ s. ok (gathered links s)

  pub gather_own : gather G new c (gathered links s) ≡ and_then (consider_own G s new c links) after
  unfolding gather consider_own
  gather_own = go (at s.labelling.best_lists c)
    where
      go : (r : Run (List ℕ)) → (r >>= λ own. consider_child G s new c own links >>= after) ≡ and_then (r >>= λ own. consider_child G s new c own links) after
      go fault = refl
      go (ok own) = refl

  pub gather_lost : consider_own G s new c links ≡ fault → gather G new c (gathered links s) ≡ fault
  gather_lost e = gather_own ∙ rw e

  gather_kept : (l : List Link) → consider_own G s new c links ≡ ok l → gather G new c (gathered links s) ≡ after l
  gather_kept l e = gather_own ∙ rw e

  -- the child's list is forgotten, and r is what the store of its best edge answers
  pub gather_ends : {B : Type 0} (l : List Link) (t u : State) (r : Result B Fault) → consider_own G s new c links ≡ ok l → put_best_list c [] s ≡ ok t
      → Agrees (put_best c missing t) r u → Agrees (gather G new c (gathered links s)) r (gathered l u)
  gather_ends l t u (Ok b) e p h = gather_kept l e ∙ rw (p, h)
  gather_ends l t u (Err f) e p h = gather_kept l e ∙ rw (p, h)
