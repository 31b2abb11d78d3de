-- The lent lists while records are taken one after another: past what has been read they are as they were.
use Rattle.std.proofs.Common.{◌≡◌, refl, sym, ap, subst, ◌∙◌, true, ◌⊎◌, inl, inr, List, ℕ, ◌+◌, ◌-◌, ◌≤◌, length, drop, arith}
use Rattle.std.proofs.lemmas.List.{drop-drop}
use Rattle.records.specs.Site.{Reading, onward, judge}
use Rattle.records.specs.View.{view_of, edges_now, Past, Stands}
use Rattle.records.specs.declared.draft.Draft.{Draft}
use Rattle.records.proofs.Edges.{counted}
use Rattle.records.proofs.Taken.{goes}

-- where two lists agree from some place on, they do from each later one on
later : {A : Type 0} (i j : ℕ) (a b : List A) → i ≤ j → drop i a ≡ drop i b → drop j a ≡ drop j b
later i j a b h e =
    let q : i + (j - i) ≡ j = omega arith in
    let f : drop (i + (j - i)) a ≡ drop (i + (j - i)) b = sym (drop-drop (j - i) i a) ∙ ap (drop (j - i)) e ∙ drop-drop (j - i) i b in
    rw q at f

edges_counted : (d : Draft) → length (edges_now d) ≡ d.read.count
edges_counted d =
    let few = d.read.few_edges in
    counted d.first.now d.second.now d.weight.now d.read.count
    (omega (arith, few, d.room_first)) (omega (arith, few, d.room_second)) (omega (arith, few, d.room_weight))

-- a draft that is a reading at some place is that reading
pub stands_at : (place : ℕ) (d : Draft) (s : Reading) → view_of place d ≡ s → Stands s d
stands_at place d s e = subst (λ t. view_of t.place d ≡ t) e refl

-- the draft that was lent, and what the records so far have made of it: N was the first of them
pub record SoFar (a b : Draft) : Type 0 where
  pub past : Past a b
  pub first : (b.read.opened ≡ true) ⊎ (b.times.now ≡ a.times.now)

pub none_taken : (a : Draft) → SoFar a a
none_taken a = record { past = record { firsts = refl; seconds = refl; weights = refl; times = refl }; first = inr refl }

module _ (a b c : Draft) (s : SoFar a b) (p : Past b c) (more : b.read.count ≤ c.read.count) where
  times_past : (b.read.opened ≡ true → c.read.nodes ≡ b.read.nodes) → (b.read.opened ≡ true) ⊎ (b.times.now ≡ a.times.now)
      → drop c.read.nodes c.times.now ≡ drop c.read.nodes a.times.now
  times_past n (inl h) =
      let l : b.read.nodes ≤ c.read.nodes = omega (arith, n h) in
      p.times ∙ later b.read.nodes c.read.nodes b.times.now a.times.now l s.past.times
  times_past n (inr e) = p.times ∙ ap (drop c.read.nodes) e

  past_on : (b.read.opened ≡ true → c.read.nodes ≡ b.read.nodes) → Past a c
  past_on n =
      record {
        firsts = p.firsts ∙ later b.read.count c.read.count b.first.now a.first.now more s.past.firsts;
        seconds = p.seconds ∙ later b.read.count c.read.count b.second.now a.second.now more s.past.seconds;
        weights = p.weights ∙ later b.read.count c.read.count b.weight.now a.weight.now more s.past.weights;
        times = times_past n s.first;
      }

pub one_taken : (a b c : Draft) (file : List ℕ) (p q : ℕ) → SoFar a b → judge file (view_of p b) ≡ onward (view_of q c) → Past b c → SoFar a c
one_taken a b c file p q s j h =
    let g = goes file (view_of p b) (view_of q c) j in
    let more : b.read.count ≤ c.read.count = omega (arith, g.edges, edges_counted b, edges_counted c) in
    record { past = past_on a b c s h more g.nodes; first = inl g.opened }
