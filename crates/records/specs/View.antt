-- The code's states and answers as the definition's.
use Rattle.std.specs.Prelude.{◌≡◌, Option, Some, None, Result, Ok, Err, List, ℕ, ℤ, take, drop}
use Rattle.matching.specs.Graph.{Edge, edges_from}
use Rattle.records.specs.Site as site
use Rattle.records.specs.declared.kind.Kind.{Kind}
use Rattle.records.specs.declared.kind.Kind.TheVariants as kind
use Rattle.records.specs.declared.complaint.Complaint.{Complaint}
use Rattle.records.specs.declared.complaint.Complaint.TheVariants as complaint
use Rattle.records.specs.declared.draft.Reading.{Reading}
use Rattle.records.specs.declared.draft.Draft.{Draft}

abbrev pub kind_view : Kind → site.Kind
kind_view kind.N = site.N
kind_view kind.C = site.C
kind_view kind.B = site.B
kind_view kind.E = site.E
kind_view kind.T = site.T
kind_view kind.J = site.J
kind_view kind.G = site.G

abbrev pub named_of : Option Kind → site.Named
named_of (Some k) = site.known (kind_view k)
named_of None = site.unknown

abbrev pub complaint_of : Complaint → site.Complaint
complaint_of complaint.Nodes = site.NODES
complaint_of complaint.Edges = site.EDGES
complaint_of complaint.Buffer = site.BUFFER
complaint_of complaint.Kind = site.KIND
complaint_of complaint.Cut = site.CUT
complaint_of complaint.Order = site.ORDER
complaint_of complaint.Time = site.TIME
complaint_of complaint.Long = site.LONG

abbrev pub head_of : Reading → site.Head
head_of s =
    record {
      opened = s.opened;
      gone = s.gone;
      flagged = s.flagged;
      budgeted = s.budgeted;
      nodes = s.nodes;
      flag = s.flag;
      budget = s.budget;
    }

-- the first k edges of three lent lists
abbrev pub edges_in : ℕ → List ℕ → List ℕ → List ℤ → List Edge
edges_in k F S W = edges_from (take k F) (take k S) (take k W)

-- the edges that stand in its lists
abbrev pub edges_now : Draft → List Edge
edges_now d = edges_in d.read.count d.first.now d.second.now d.weight.now

-- of each node, its throw time or untimed
abbrev pub times_now : Draft → List ℕ
times_now d = take d.read.nodes d.times.now

-- with its next record at this place
abbrev pub view_of : (place : ℕ) → Draft → site.Reading
view_of place d =
    record {
      place = place;
      head = head_of d.read;
      times = times_now d;
      edges = edges_now d;
    }

-- a throw time, or none
abbrev pub timed : Option ℕ → ℕ
timed (Some t) = t
timed None = site.untimed

-- a record that is taken leaves the definition's reading, with its next record at this place; one that is refused has its complaint
abbrev pub Takes : {A : Type 0} → site.Next → (place : ℕ) → Draft → Result A Complaint → Type 0
Takes x place d (Ok u) = x ≡ site.onward (view_of place d)
Takes x place d (Err c) = x ≡ site.stopped (complaint_of c)

-- the lists are still those that were lent
abbrev pub Same : Draft → Draft → Type 0
Same d e =
    (e.first.ghost_name ≡ d.first.ghost_name) × (e.second.ghost_name ≡ d.second.ghost_name) × (e.weight.ghost_name ≡ d.weight.ghost_name)
    × (e.times.ghost_name ≡ d.times.ghost_name)

-- past its edges and its nodes' times, a draft's lists hold what they held
pub record Past (d e : Draft) : Type 0 where
  pub firsts : drop e.read.count e.first.now ≡ drop e.read.count d.first.now
  pub seconds : drop e.read.count e.second.now ≡ drop e.read.count d.second.now
  pub weights : drop e.read.count e.weight.now ≡ drop e.read.count d.weight.now
  pub times : drop e.read.nodes e.times.now ≡ drop e.read.nodes d.times.now

-- a record that is refused changes nothing
abbrev pub Leaves : {A : Type 0} → Result A Complaint → Draft → Draft → Type 0
Leaves (Ok u) d e = Past d e
Leaves (Err c) d e = e ≡ d

-- the draft is what this reading says
abbrev pub Stands : site.Reading → Draft → Type 0
Stands s d = view_of s.place d ≡ s
