-- The adding of a group in the routines' parts, and what they answer. Definitions only.
use Rattle.std.specs.Prelude.{◌≡◌, List, [], ◌∷◌, ◌++◌, reverse, map, ℕ, ◌+◌, ◌*◌, ◌/◌, ltb, length, Result, Ok, Err}
use Rattle.laws.specs.Run.{Run, ok, fault, ◌>>=◌, must, for_each, at}
use Rattle.matching.specs.Graph.{Graph, beside}
use Rattle.steps.specs.State.{State}
use Rattle.steps.specs.Leaves.{leaves_of}
use Rattle.steps.specs.Add.{Trace, trace, ring_up, settle, take_in, Link, Gathered, consider, consider_child, best_edges}
use Rattle.numbers.specs.declared.faults.Fault.{Fault}
use Rattle.state.specs.Free.{take_last}
use Rattle.grouping.specs.Paths.{Pathed}
use Rattle.grouping.specs.declared.trace.Back.{Back}
use Rattle.grouping.specs.declared.ring.Meeting.{Meeting}

-- a walk that stands at a group
abbrev pub standing : (here : ℕ) → (kids ends : List ℕ) → Trace
standing here kids ends = record { here = here; kids = kids; ends = ends }

-- the walk x goes one group further
abbrev pub Steps : Run Trace → (here : ℕ) → (kids ends : List ℕ) → Result Back Fault → Type 0
Steps x here kids ends (Ok k) = x ≡ ok (standing k.to (kids ++ (here ∷ [])) (ends ++ (k.end ∷ [])))
Steps x here kids ends (Err e) = x ≡ fault

-- the outermost groups of the base and of an edge's two nodes
pub record Met : Type 0 where
  pub first : ℕ
  pub v : ℕ
  pub w : ℕ

abbrev pub met : (first v w : ℕ) → Met
met first v w = record { first = first; v = v; w = w }

unfoldable pub meeting_of : Graph → (base e : ℕ) → State → Run Met
meeting_of G base e s = do
  x ← at G.edges e
  first ← at s.forest.tops base
  v ← at s.forest.tops x.first
  w ← at s.forest.tops x.second
  ok (met first v w)

abbrev pub Meets : Run Met → Result Meeting Fault → Type 0
Meets x (Ok m) = x ≡ ok (met m.first m.v m.w)
Meets x (Err e) = x ≡ fault

-- a ring's children and their ends
pub record Ring : Type 0 where
  pub kids : List ℕ
  pub ends : List ℕ

-- the ring of two paths, where it has no more children than there are nodes
unfoldable pub ring_of : Graph → State → (first v w e : ℕ) → Run Ring
ring_of G s first v w e = do
  a ← trace G s first v
  b ← trace G s first w
  _ ← must (ltb (length a.kids + length b.kids) G.nodes)
  ok (record { kids = reverse (a.kids ++ (first ∷ [])) ++ b.kids; ends = reverse a.ends ++ (2 * e ∷ []) ++ map beside b.ends })

abbrev pub Rings : Run Ring → {B : Type 0} → Result B Fault → Pathed → Type 0
Rings x (Ok b) p = x ≡ ok (record { kids = p.kids; ends = p.ends })
Rings x (Err e) p = x ≡ fault

-- the nodes of the new group are taken in
unfoldable pub take_nodes : Graph → (new : ℕ) → State → Run State
take_nodes G new s = do
  vs ← leaves_of G s new
  for_each (take_in G new) vs s

-- the edge of end p
unfoldable pub at_end : Graph → State → (new p : ℕ) → List Link → Run (List Link)
at_end G s new p links = consider G s new (p / 2) links

-- a child's own list, or all edges of its nodes where it has none
unfoldable pub consider_own : Graph → State → (new c : ℕ) → List Link → Run (List Link)
consider_own G s new c links = do
  own ← at s.labelling.best_lists c
  consider_child G s new c own links

abbrev pub gathered : List Link → State → Gathered
gathered links s = record { links = links; state = s }

-- the whole, where the length of the ring is tested first
unfoldable pub added_of : Graph → (base e : ℕ) → State → Run State
added_of G base e s = do
  m ← meeting_of G base e s
  r ← ring_of G s m.first m.v m.w e
  t ← take_last s
  s ← ring_up G t.new base r.kids r.ends t.state
  s ← settle t.new m.first s
  s ← take_nodes G t.new s
  best_edges G t.new r.kids s
