-- Site files worked out: document 01's example, the empty file, and one file for each refusal at its place.
use mathlib.Core.Path.{◌≡◌, refl}
use mathlib.Core.Bool.{false}
use mathlib.Core.List.{List, [], ◌∷◌, ◌++◌, map}
use Prim.Native.Nat.{ℕ}
use lib.IntN.{pos}
use lib.ListN.{length, replicate}
use Rattle.matching.specs.Graph.{edge}
use Rattle.records.specs.Site.{Reading, Next, stopped, unread, with_nodes, untimed, Outcome, read, refused, NODES, EDGES, BUFFER, KIND, CUT}
use Rattle.records.specs.Site.{ORDER, TIME, LONG, kind_of, number_at, signed, budget_of, misplaced, cut_short, take_nodes, take_flag}
use Rattle.records.specs.Site.{take_budget, is_full, take_edge, time_of, take_time, take_join, take_go, judge_kind, judge, ended}
use Rattle.records.specs.Site.{read_from, reached, beginning, read_records, read_site}

-- what a file reads as, where the lent lists have room
unfoldable pub reads : List ℕ → Outcome
unfolding kind_of number_at signed budget_of misplaced cut_short take_nodes take_flag take_budget is_full take_edge time_of take_time
    take_join take_go judge_kind judge ended read_from read_records read_site
reads file = read_site 2048 file

-- one record after another
abbrev n2 : List ℕ
n2 = 0x4E ∷ 2 ∷ 0 ∷ []

abbrev t0 : List ℕ
t0 = 0x54 ∷ 0 ∷ 0 ∷ 7 ∷ 0 ∷ 0 ∷ 0 ∷ []

abbrev t1 : List ℕ
t1 = 0x54 ∷ 1 ∷ 0 ∷ 9 ∷ 0 ∷ 0 ∷ 0 ∷ []

abbrev j01 : List ℕ
j01 = 0x4A ∷ 0 ∷ 0 ∷ 1 ∷ 0 ∷ []

abbrev go : List ℕ
go = 0x47 ∷ []

-- document 01's example
abbrev pub example : List ℕ
example =
    0x4E ∷ 0x04 ∷ 0x00 ∷ 0x45 ∷ 0x00 ∷ 0x00 ∷ 0x01 ∷ 0x00 ∷ 0x05 ∷ 0x00 ∷ 0x00 ∷ 0x00 ∷
    0x45 ∷ 0x01 ∷ 0x00 ∷ 0x02 ∷ 0x00 ∷ 0x0B ∷ 0x00 ∷ 0x00 ∷ 0x00 ∷ 0x45 ∷ 0x02 ∷ 0x00 ∷ 0x03 ∷ 0x00 ∷ 0x05 ∷ 0x00 ∷ 0x00 ∷ 0x00 ∷ 0x47 ∷ []

pub example_reads : reads example
    ≡ read (record { nodes = 4; flag = false; budget = 160; edges = edge 0 1 (pos 5) ∷ edge 1 2 (pos 11) ∷ edge 2 3 (pos 5) ∷ [] })
unfolding reads
example_reads = refl

-- T and J: the lesser of 7 and 9
pub joined_reads : reads (n2 ++ t0 ++ t1 ++ j01 ++ go) ≡ read (record { nodes = 2; flag = false; budget = 48; edges = edge 0 1 (pos 7) ∷ [] })
unfolding reads
joined_reads = refl

pub empty_reads : reads [] ≡ refused CUT 0
unfolding reads
empty_reads = refl

-- ---- each refusal at its place

abbrev flagged : ℕ → List ℕ
flagged v = 0x43 ∷ v ∷ []

-- one row: a file, and what it reads as
pub record Row : Type 0 where
  pub file : List ℕ
  pub outcome : Outcome

abbrev row : List ℕ → Outcome → Row
row f o = record { file = f; outcome = o }

abbrev pub rows : List Row
rows =
    row (n2 ++ (0x58 ∷ [])) (refused KIND 3)
    -- an unknown byte after G
    ∷ row (n2 ++ go ++ (0x0A ∷ [])) (refused KIND 4)
    -- N not first, N repeated, C repeated, something after G; a cut body there is no CUT
    ∷ row (go ++ n2) (refused ORDER 0)
    ∷ row (n2 ++ t0 ++ (0x4E ∷ [])) (refused ORDER 10)
    ∷ row (n2 ++ flagged 1 ++ flagged 1 ++ go) (refused ORDER 5)
    ∷ row (n2 ++ go ++ (0x45 ∷ [])) (refused ORDER 4)
    -- C not 0 or 1; cut short it is CUT
    ∷ row (n2 ++ flagged 2 ++ go) (refused ORDER 3)
    ∷ row (n2 ++ (0x43 ∷ [])) (refused CUT 3)
    -- no G: the file's length
    ∷ row (n2 ++ t0) (refused CUT 10)
    ∷ row (0x4E ∷ 65 ∷ 0 ∷ []) (refused NODES 0)
    -- a T of no node, a time past the limit, a second T; a J before a T, and of no node
    ∷ row (n2 ++ (0x54 ∷ 2 ∷ 0 ∷ 7 ∷ 0 ∷ 0 ∷ 0 ∷ [])) (refused TIME 3)
    ∷ row (n2 ++ (0x54 ∷ 0 ∷ 0 ∷ 0x01 ∷ 0xCA ∷ 0x9A ∷ 0x3B ∷ [])) (refused TIME 3)
    ∷ row (n2 ++ t0 ++ t0) (refused TIME 10)
    ∷ row (n2 ++ t0 ++ j01 ++ t1 ++ go) (refused TIME 10)
    ∷ row (n2 ++ t0 ++ (0x4A ∷ 0 ∷ 0 ∷ 2 ∷ 0 ∷ [])) (refused TIME 10)
    ∷ []

pub rows_read : map (λ (r : Row). reads r.file) rows ≡ map (λ (r : Row). r.outcome) rows
unfolding reads
rows_read = refl

-- ---- where reading stops

unfoldable pub reaches : List ℕ → Reading
unfolding kind_of number_at signed misplaced cut_short take_nodes take_flag take_budget is_full take_edge time_of take_time take_join take_go judge_kind judge
    reached
reaches file = reached (length file) file beginning

-- an unknown byte after a J: what was read before it stands, edge and times
pub refused_reaches : reaches (n2 ++ t0 ++ t1 ++ j01 ++ (0x58 ∷ []))
    ≡ record { place = 22; head = with_nodes 2 unread; times = 7 ∷ 9 ∷ []; edges = edge 0 1 (pos 7) ∷ [] }
unfolding reaches
refused_reaches = refl

-- a second T for node 0: its first time stands
pub again_reaches : reaches (n2 ++ t0 ++ t0) ≡ record { place = 10; head = with_nodes 2 unread; times = 7 ∷ untimed ∷ []; edges = [] }
unfolding reaches
again_reaches = refl

-- no G: all that was read stands
pub ended_reaches : reaches (n2 ++ t1) ≡ record { place = 10; head = with_nodes 2 unread; times = untimed ∷ 9 ∷ []; edges = [] }
unfolding reaches
ended_reaches = refl

-- ---- limits

-- n 2 and so many edges have been read; no node has a time
abbrev holding : ℕ → Reading
holding k = record { place = 0; head = with_nodes 2 unread; times = replicate 2 untimed; edges = replicate k (edge 0 1 (pos 5)) }

unfoldable pub judges : List ℕ → ℕ → Next
unfolding kind_of number_at signed misplaced cut_short take_nodes take_flag take_budget is_full take_edge time_of take_time take_join take_go judge_kind judge
judges file k = judge file (holding k)

-- the 2,049th edge is EDGES, after CUT and before TIME
pub full_judges : judges j01 2048 ≡ stopped EDGES
unfolding judges
full_judges = refl

pub cut_judges : judges (0x4A ∷ 0 ∷ []) 2048 ≡ stopped CUT
unfolding judges
cut_judges = refl

pub last_judges : judges j01 2047 ≡ stopped TIME
unfolding judges
last_judges = refl

pub long_reads : reads (replicate 65537 0x47) ≡ refused LONG 0
unfolding reads
long_reads = refl

pub as_long_as_may_be : reads (replicate 65536 0x47) ≡ refused ORDER 0
unfolding reads
as_long_as_may_be = refl

pub short_lists_read : read_site 2047 example ≡ refused BUFFER 0
unfolding read_site
short_lists_read = refl
