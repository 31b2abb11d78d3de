-- The records of a file, one after another: what is left of them reads as the whole.
use Rattle.std.proofs.Common.{◌≡◌, refl, List, ℕ, zero, suc, ◌+◌, ◌≤◌, ◌<◌, length, true, false, arith, lt-ltb, le-ltb}
use Rattle.records.specs.Site.{Complaint, Reading, onward, stopped, judge, Outcome, CUT, Site, read, refused, budget_of, site_of, ended, read_from, reached}

-- what is left of the file reads as x, and the reading y is reached: so many records hold it
pub record Left (file : List ℕ) (x : Outcome) (y s : Reading) : Type 0 where
  pub records : ℕ
  pub enough : length file ≤ s.place + records
  pub reads : read_from records file s ≡ x
  pub reaches : reached records file s ≡ y

module _ (file : List ℕ) (s : Reading) where
  pub begun : Left file (read_from (length file) file s) (reached (length file) file s) s
  begun = record { records = length file; enough = omega arith; reads = refl; reaches = refl }

module _ (file : List ℕ) (x : Outcome) (y s : Reading) where
  module _ (l : s.place < length file) where
    turn_by : (records : ℕ) → length file ≤ s.place + records → read_from records file s ≡ x → reached records file s ≡ y
        → (t : Reading) → judge file s ≡ onward t → s.place < t.place → Left file x y t
    unfolding read_from reached
    turn_by zero h e f t j g = let no_way : ⊥ = omega arith in absurd no_way
    turn_by (suc records) h e f t j g =
        record {
          records = records;
          enough = omega arith;
          reads = rw (lt-ltb s.place (length file) l, j) at e;
          reaches = rw (lt-ltb s.place (length file) l, j) at f;
        }

    stop_by : (records : ℕ) → length file ≤ s.place + records → read_from records file s ≡ x
        → (c : Complaint) → judge file s ≡ stopped c → refused c s.place ≡ x
    unfolding read_from
    stop_by zero h e c j = let no_way : ⊥ = omega arith in absurd no_way
    stop_by (suc records) h e c j = rw (lt-ltb s.place (length file) l, j) at e

    halt_by : (records : ℕ) → reached records file s ≡ y → (c : Complaint) → judge file s ≡ stopped c → s ≡ y
    unfolding reached
    halt_by zero f c j = f
    halt_by (suc records) f c j = rw (lt-ltb s.place (length file) l, j) at f

  pub turn : Left file x y s → s.place < length file → (t : Reading) → judge file s ≡ onward t → s.place < t.place → Left file x y t
  turn h l t j g = turn_by l h.records h.enough h.reads h.reaches t j g

  pub stop : Left file x y s → s.place < length file → (c : Complaint) → judge file s ≡ stopped c → (p : ℕ) → p ≡ s.place → refused c p ≡ x
  stop h l c j p e = rw e (stop_by l h.records h.enough h.reads c j)

  -- a record is refused, and nothing more is read
  pub halt : Left file x y s → s.place < length file → (c : Complaint) → judge file s ≡ stopped c → s ≡ y
  halt h l c j = halt_by l h.records h.reaches c j

  end : length file ≤ s.place → (records : ℕ) → read_from records file s ≡ x → ended file s ≡ x
  unfolding read_from
  end l zero e = e
  end l (suc records) e = rw (le-ltb s.place (length file) l) at e

  rest : length file ≤ s.place → (records : ℕ) → reached records file s ≡ y → s ≡ y
  unfolding reached
  rest l zero f = f
  rest l (suc records) f = rw (le-ltb s.place (length file) l) at f

  -- no record is left
  pub over : Left file x y s → length file ≤ s.place → s ≡ y
  over h l = rest l h.records h.reaches

  pub cut : Left file x y s → length file ≤ s.place → s.head.gone ≡ false → (p : ℕ) → p ≡ length file → refused CUT p ≡ x
  unfolding ended
  cut h l g p e = rw (g, ← e) at (end l h.records h.reads)

  pub whole : Left file x y s → length file ≤ s.place → s.head.gone ≡ true → (t : Site) → t ≡ site_of s → read t ≡ x
  unfolding ended budget_of
  whole h l g t e = rw e (rw g at (end l h.records h.reads))

pub ruleset left = (begun, turn, stop, cut, whole)
