-- The site file, from bytes (numbers below 256) to n, flag, budget and edges, or to a refusal with its place.
-- A file is a run of records: one byte of kind, then a body of fixed length, numbers little-endian. Definitions only.
use Rattle.std.specs.Prelude.{if◌then◌else◌, Bool, true, false, not, List, [], ◌∷◌, ◌++◌, ℕ, zero, suc, ◌+◌, ◌*◌, ◌-◌, ◌^◌, min, eqb, ltb, leb, ℤ, pos, negsuc, length, get_or, set, replicate}
use Rattle.matching.specs.Graph.{Edge, edge}
use Rattle.steps.specs.Refusals.{max_nodes, max_edges}

-- ---- limits

abbrev pub max_bytes : ℕ
max_bytes = 65_536

abbrev pub max_time : ℕ
max_time = 1_000_000_000

-- ---- kinds

pub data Kind : Type 0 where
  N C B E T J G : Kind

pub data Named : Type 0 where
  known : Kind → Named
  unknown : Named

-- the kind that a byte names: its letter
unfoldable pub kind_of : ℕ → Named
kind_of b =
    if eqb b 78 then known N
    else if eqb b 67 then known C
    else if eqb b 66 then known B
    else if eqb b 69 then known E
    else if eqb b 84 then known T
    else if eqb b 74 then known J
    else if eqb b 71 then known G
    else unknown

-- how many bytes its body has
abbrev pub body : Kind → ℕ
body N = 2
body C = 1
body B = 4
body E = 8
body T = 6
body J = 4
body G = 0

-- ---- numbers

abbrev pub byte_at : List ℕ → ℕ → ℕ
byte_at file i = get_or file i 0

-- `count` bytes from place i on, little-endian
unfoldable pub number_at : (count : ℕ) → List ℕ → (i : ℕ) → ℕ
number_at zero file i = 0
number_at (suc count) file i = byte_at file i + 256 * number_at count file (i + 1)

abbrev pub word_at : List ℕ → ℕ → ℕ
word_at file i = number_at 2 file i

abbrev pub long_at : List ℕ → ℕ → ℕ
long_at file i = number_at 4 file i

-- four bytes as a signed number
unfoldable pub signed : ℕ → ℤ
signed x = if ltb x (2 ^ 31) then pos x else negsuc (2 ^ 32 - 1 - x)

-- ---- answers

pub data Complaint : Type 0 where
  NODES EDGES BUFFER KIND CUT ORDER TIME LONG : Complaint

abbrev pub complaint_number : Complaint → ℕ
complaint_number NODES = 1
complaint_number EDGES = 2
complaint_number BUFFER = 6
complaint_number KIND = 21
complaint_number CUT = 22
complaint_number ORDER = 23
complaint_number TIME = 24
complaint_number LONG = 25

-- what a file says
pub record Site : Type 0 where
  pub nodes : ℕ
  pub flag : Bool
  pub budget : ℕ
  pub edges : List Edge

pub data Outcome : Type 0 where
  read : Site → Outcome
  refused : Complaint → (place : ℕ) → Outcome

-- ---- what has been read so far

-- no throw time: a number that passes every limit on times
abbrev pub untimed : ℕ
untimed = 4_294_967_295

-- what N, C, B and G said
pub record Head : Type 0 where
  -- an N, a G, a C, a B has been read
  pub opened : Bool
  pub gone : Bool
  pub flagged : Bool
  pub budgeted : Bool
  pub nodes : ℕ
  pub flag : Bool
  pub budget : ℕ

pub record Reading : Type 0 where
  -- the place of the next record
  pub place : ℕ
  pub head : Head
  -- of each node, its throw time or untimed
  pub times : List ℕ
  -- in file order
  pub edges : List Edge

-- No C means 0
abbrev pub unread : Head
unread = record { opened = false; gone = false; flagged = false; budgeted = false; nodes = 0; flag = false; budget = 0 }

-- nothing has been read, and the first record is at this place
abbrev pub start_at : (place : ℕ) → Reading
start_at place = record { place = place; head = unread; times = []; edges = [] }

-- the same reading, with its next record at this place
abbrev pub moved : (place : ℕ) → Reading → Reading
moved place s = record { place = place; head = s.head; times = s.times; edges = s.edges }

abbrev pub beginning : Reading
beginning = start_at 0

-- No B means 8·n·(n+1)
unfoldable pub budget_of : Head → ℕ
budget_of h = if h.budgeted then h.budget else 8 * h.nodes * (h.nodes + 1)

abbrev pub site_of : Reading → Site
site_of s = record { nodes = s.head.nodes; flag = s.head.flag; budget = budget_of s.head; edges = s.edges }

-- ---- one record

-- the file goes on, or is refused at this record's kind byte
pub data Next : Type 0 where
  onward : Reading → Next
  stopped : Complaint → Next

-- N not first or repeated, C or B repeated, anything after G
abbrev pub repeated : Kind → Head → Bool
repeated N h = h.opened
repeated C h = h.flagged
repeated B h = h.budgeted
repeated E h = false
repeated T h = false
repeated J h = false
repeated G h = false

abbrev pub is_n : Kind → Bool
is_n N = true
is_n C = false
is_n B = false
is_n E = false
is_n T = false
is_n J = false
is_n G = false

unfoldable pub misplaced : Kind → Head → Bool
misplaced k h = if h.gone then true else if h.opened then repeated k h else not (is_n k)

-- the body is cut short
unfoldable pub cut_short : Kind → List ℕ → (place : ℕ) → Bool
cut_short k file place = ltb (length file) (place + 1 + body k)

-- N: node count
abbrev pub with_nodes : ℕ → Head → Head
with_nodes n h =
    record { opened = true; gone = h.gone; flagged = h.flagged; budgeted = h.budgeted; nodes = n; flag = h.flag; budget = h.budget }

unfoldable pub take_nodes : List ℕ → Reading → Next
take_nodes file s =
    let n = word_at file (s.place + 1) in
    if ltb max_nodes n then stopped NODES
    else onward (record { place = s.place + 3; head = with_nodes n s.head; times = replicate n untimed; edges = s.edges })

-- C: flag, 0 or 1
abbrev pub with_flag : Bool → Head → Head
with_flag b h =
    record { opened = h.opened; gone = h.gone; flagged = true; budgeted = h.budgeted; nodes = h.nodes; flag = b; budget = h.budget }

unfoldable pub take_flag : List ℕ → Reading → Next
take_flag file s =
    let v = byte_at file (s.place + 1) in
    if ltb 1 v then stopped ORDER
    else onward (record { place = s.place + 2; head = with_flag (eqb v 1) s.head; times = s.times; edges = s.edges })

-- B: budget
abbrev pub with_budget : ℕ → Head → Head
with_budget b h =
    record { opened = h.opened; gone = h.gone; flagged = h.flagged; budgeted = true; nodes = h.nodes; flag = h.flag; budget = b }

unfoldable pub take_budget : List ℕ → Reading → Next
take_budget file s =
    onward (record { place = s.place + 5; head = with_budget (long_at file (s.place + 1)) s.head; times = s.times; edges = s.edges })

-- there is no room for one more edge
unfoldable pub is_full : Reading → Bool
is_full s = leb max_edges (length s.edges)

abbrev pub take_in : (place : ℕ) → Edge → Reading → Reading
take_in place x s = record { place = place; head = s.head; times = s.times; edges = s.edges ++ (x ∷ []) }

-- E: two ends, signed weight
unfoldable pub take_edge : List ℕ → Reading → Next
take_edge file s =
    let x = edge (word_at file (s.place + 1)) (word_at file (s.place + 3)) (signed (long_at file (s.place + 5))) in
    if is_full s then stopped EDGES else onward (take_in (s.place + 9) x s)

-- the throw time of node v; untimed where no T gave one, or v is no node
unfoldable pub time_of : List ℕ → ℕ → ℕ
time_of times v = get_or times v untimed

-- T: node, throw time
unfoldable pub take_time : List ℕ → Reading → Next
take_time file s =
    let v = word_at file (s.place + 1) in
    let t = long_at file (s.place + 3) in
    if leb s.head.nodes v then stopped TIME
    else if ltb max_time t then stopped TIME
    else if not (eqb (time_of s.times v) untimed) then stopped TIME
    else onward (record { place = s.place + 7; head = s.head; times = set s.times v t; edges = s.edges })

-- J: two ends; an edge whose weight is the lesser of the two throw times
unfoldable pub take_join : List ℕ → Reading → Next
take_join file s =
    let a = word_at file (s.place + 1) in
    let b = word_at file (s.place + 3) in
    let t = time_of s.times a in
    let u = time_of s.times b in
    if is_full s then stopped EDGES
    else if eqb t untimed then stopped TIME
    else if eqb u untimed then stopped TIME
    else onward (take_in (s.place + 5) (edge a b (pos (min t u))) s)

-- G: go
abbrev pub with_go : Head → Head
with_go h =
    record { opened = h.opened; gone = true; flagged = h.flagged; budgeted = h.budgeted; nodes = h.nodes; flag = h.flag; budget = h.budget }

unfoldable pub take_go : Reading → Next
take_go s = onward (record { place = s.place + 1; head = with_go s.head; times = s.times; edges = s.edges })

abbrev pub take_body : Kind → List ℕ → Reading → Next
take_body N file s = take_nodes file s
take_body C file s = take_flag file s
take_body B file s = take_budget file s
take_body E file s = take_edge file s
take_body T file s = take_time file s
take_body J file s = take_join file s
take_body G file s = take_go s

-- At one record KIND, ORDER, CUT, the rest
unfoldable pub judge_kind : Kind → List ℕ → Reading → Next
judge_kind k file s =
    let rest = take_body k file s in
    if misplaced k s.head then stopped ORDER else if cut_short k file s.place then stopped CUT else rest

abbrev pub judge_named : Named → List ℕ → Reading → Next
judge_named (known k) file s = judge_kind k file s
judge_named unknown file s = stopped KIND

unfoldable pub judge : List ℕ → Reading → Next
judge file s = judge_named (kind_of (byte_at file s.place)) file s

-- ---- the whole file

-- no G: CUT at the file's length
unfoldable pub ended : List ℕ → Reading → Outcome
ended file s = if s.head.gone then read (site_of s) else refused CUT (length file)

abbrev pub after_record : (place : ℕ) → (Reading → Outcome) → Next → Outcome
after_record place rest (onward s) = rest s
after_record place rest (stopped c) = refused c place

-- at most so many records; each has a byte, so a file has no more records than bytes
unfoldable pub read_from : (records : ℕ) → List ℕ → Reading → Outcome
read_from zero file s = ended file s
read_from (suc records) file s =
    let next = after_record s.place (λ t. read_from records file t) (judge file s) in
    if ltb s.place (length file) then next else ended file s

-- what has been read where the records end, or at a record that is refused; its place is that record's
abbrev pub up_to : Reading → (Reading → Reading) → Next → Reading
up_to s rest (onward t) = rest t
up_to s rest (stopped c) = s

unfoldable pub reached : (records : ℕ) → List ℕ → Reading → Reading
reached zero file s = s
reached (suc records) file s =
    let next = up_to s (λ t. reached records file t) (judge file s) in
    if ltb s.place (length file) then next else s

unfoldable pub read_records : List ℕ → Outcome
read_records file = read_from (length file) file beginning

-- the lent lists have room for so many edges; LONG precedes all
unfoldable pub read_site : (room : ℕ) → List ℕ → Outcome
read_site room file =
    let rest = read_records file in
    if ltb max_bytes (length file) then refused LONG 0
    else if ltb room max_edges then refused BUFFER 0
    else rest

-- what the answer tells: n, flag, budget and how many edges; or the refusal's number and place
pub data Told : Type 0 where
  accepted : (nodes : ℕ) → (flag : Bool) → (budget edges : ℕ) → Told
  rejected : (number place : ℕ) → Told

abbrev pub told : Outcome → Told
told (read s) = accepted s.nodes s.flag s.budget (length s.edges)
told (refused c place) = rejected (complaint_number c) place

-- the edges that the lent lists then hold
abbrev pub edges_of : Outcome → List Edge
edges_of (read s) = s.edges
edges_of (refused c place) = []
