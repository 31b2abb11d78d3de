-- A file that is accepted has at most 64 nodes.
use Rattle.std.specs.Prelude.{if◌then◌else◌}
use mathlib.Core.Path.{◌≡◌, refl}
use mathlib.Core.Bool.{Bool, true, false, not}
use mathlib.Core.List.{List}
use Prim.Native.Nat.{ℕ, zero, suc, ◌+◌, ◌≤◌, zero-le}
use borrow.Author.Tests.{ltb-false}
use lib.Dec.{eqb, ltb, leb}
use lib.ListN.{length, replicate}
use Rattle.steps.specs.Refusals.{max_nodes, max_edges}
use Rattle.records.specs.Site as site

abbrev Few : site.Reading → Type 0
Few s = s.head.nodes ≤ max_nodes

abbrev FewNext : site.Next → Type 0
FewNext (site.onward s) = Few s
FewNext (site.stopped c) = Unit {0}

abbrev pub FewNodes : site.Outcome → Type 0
FewNodes (site.read s) = s.nodes ≤ max_nodes
FewNodes (site.refused c place) = Unit {0}

-- ---- one record

either : {A : Type 0} (P : A → Type 0) (t : Bool) {a b : A} → P a → P b → P (if t then a else b)
either P true f g = f
either P false f g = g

few_nodes : (file : List ℕ) (s : site.Reading) → FewNext (site.take_nodes file s)
unfolding site.take_nodes
few_nodes file s = go (ltb max_nodes (site.word_at file (s.place + 1))) (ltb-false max_nodes (site.word_at file (s.place + 1)))
  where
    n : ℕ
    n = site.word_at file (s.place + 1)

    go : (t : Bool) → (t ≡ false → n ≤ max_nodes) → FewNext (if t then site.stopped site.NODES
        else site.onward (record { place = s.place + 3; head = site.with_nodes n s.head; times = replicate n site.untimed; edges = s.edges }))
    go true f = tt
    go false f = f refl

few_flag : (file : List ℕ) (s : site.Reading) → Few s → FewNext (site.take_flag file s)
unfolding site.take_flag
few_flag file s h = either FewNext (ltb 1 (site.byte_at file (s.place + 1))) tt h

few_budget : (file : List ℕ) (s : site.Reading) → Few s → FewNext (site.take_budget file s)
unfolding site.take_budget
few_budget file s h = h

few_edge : (file : List ℕ) (s : site.Reading) → Few s → FewNext (site.take_edge file s)
unfolding site.take_edge
few_edge file s h = either FewNext (site.is_full s) tt h

few_time : (file : List ℕ) (s : site.Reading) → Few s → FewNext (site.take_time file s)
unfolding site.take_time
few_time file s h =
    either FewNext (leb s.head.nodes (site.word_at file (s.place + 1))) tt
    (either FewNext (ltb site.max_time (site.long_at file (s.place + 3))) tt
    (either FewNext (not (eqb (site.time_of s.times (site.word_at file (s.place + 1))) site.untimed)) tt h))

few_join : (file : List ℕ) (s : site.Reading) → Few s → FewNext (site.take_join file s)
unfolding site.take_join
few_join file s h =
    either FewNext (site.is_full s) tt
    (either FewNext (eqb (site.time_of s.times (site.word_at file (s.place + 1))) site.untimed) tt
    (either FewNext (eqb (site.time_of s.times (site.word_at file (s.place + 3))) site.untimed) tt h))

few_go : (s : site.Reading) → Few s → FewNext (site.take_go s)
unfolding site.take_go
few_go s h = h

few_body : (k : site.Kind) (file : List ℕ) (s : site.Reading) → Few s → FewNext (site.take_body k file s)
few_body site.N file s h = few_nodes file s
few_body site.C file s h = few_flag file s h
few_body site.B file s h = few_budget file s h
few_body site.E file s h = few_edge file s h
few_body site.T file s h = few_time file s h
few_body site.J file s h = few_join file s h
few_body site.G file s h = few_go s h

few_kind : (k : site.Kind) (file : List ℕ) (s : site.Reading) → Few s → FewNext (site.judge_kind k file s)
unfolding site.judge_kind
few_kind k file s h = either FewNext (site.misplaced k s.head) tt (either FewNext (site.cut_short k file s.place) tt (few_body k file s h))

few_named : (x : site.Named) (file : List ℕ) (s : site.Reading) → Few s → FewNext (site.judge_named x file s)
few_named (site.known k) file s h = few_kind k file s h
few_named site.unknown file s h = tt

few_record : (file : List ℕ) (s : site.Reading) → Few s → FewNext (site.judge file s)
unfolding site.judge
few_record file s h = few_named (site.kind_of (site.byte_at file s.place)) file s h

-- ---- the whole file

few_ended : (file : List ℕ) (s : site.Reading) → Few s → FewNodes (site.ended file s)
unfolding site.ended
few_ended file s h = either FewNodes s.head.gone h tt

few_after : (place : ℕ) (rest : site.Reading → site.Outcome) (x : site.Next) → FewNext x
    → ((s : site.Reading) → Few s → FewNodes (rest s)) → FewNodes (site.after_record place rest x)
few_after place rest (site.onward s) h f = f s h
few_after place rest (site.stopped c) h f = tt

few_from : (records : ℕ) (file : List ℕ) (s : site.Reading) → Few s → FewNodes (site.read_from records file s)
unfolding site.read_from
few_from zero file s h = few_ended file s h
few_from (suc records) file s h =
    either FewNodes (ltb s.place (length file))
    (few_after s.place (λ t. site.read_from records file t) (site.judge file s) (few_record file s h) (λ t g. few_from records file t g))
    (few_ended file s h)

pub few_site : (room : ℕ) (file : List ℕ) → FewNodes (site.read_site room file)
unfolding site.read_site site.read_records
few_site room file =
    either FewNodes (ltb site.max_bytes (length file)) tt (either FewNodes (ltb room max_edges) tt (few_from (length file) file site.beginning zero-le))
