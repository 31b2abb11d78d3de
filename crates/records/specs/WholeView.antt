-- The answer of the whole reader: document 01's numbers and values for every case, and the final contents of the lent lists.
use Rattle.std.specs.Prelude.{◌≡◌, Result, Ok, Err, List, ◌++◌, map, ℕ, min, ◌-◌, ℤ, pos, length, replicate}
use Rattle.matching.specs.Graph.{Edge}
use Rattle.records.specs.Site as site
use Rattle.records.specs.View.{complaint_of, edges_in}
use Rattle.records.specs.declared.site.Head.{Head}
use Rattle.records.specs.declared.site.Refused.{Refused}

-- what the answer says
abbrev pub told_by : Result Head Refused → site.Told
told_by (Ok h) = site.accepted h.nodes h.flag h.budget h.edges
told_by (Err r) = site.rejected (site.complaint_number (complaint_of r.what)) r.place

-- an answer while its edges stand at the front of the lent lists
abbrev pub site_view : Result Head Refused → List ℕ → List ℕ → List ℤ → site.Outcome
site_view (Ok h) F S W =
    site.read (record { nodes = h.nodes; flag = h.flag; budget = h.budget; edges = edges_in h.edges F S W })
site_view (Err r) F S W = site.refused (complaint_of r.what) r.place

abbrev pub edge_count : Result Head Refused → ℕ
edge_count (Ok h) = h.edges
edge_count (Err r) = 0

-- the entries, and then v to the list's end
abbrev pub padded : {A : Type 0} → A → List A → (size : ℕ) → List A
padded v xs size = xs ++ replicate (size - length xs) v

-- the file, the lent lists at entry, the answer, and the lent lists at exit
pub record ReadAs (file F S : List ℕ) (W : List ℤ) (r : Result Head Refused) (F' S' : List ℕ) (W' : List ℤ) : Type 0 where
  pub answers : told_by r ≡ site.told (site.read_site (min (length F) (min (length S) (length W))) file)
  pub firsts : F' ≡ padded 0 (map (λ (x : Edge). x.first) (site.edges_of (site.read_site (min (length F) (min (length S) (length W))) file))) (length F)
  pub seconds : S' ≡ padded 0 (map (λ (x : Edge). x.second) (site.edges_of (site.read_site (min (length F) (min (length S) (length W))) file))) (length S)
  pub weights : W' ≡ padded (pos 0) (map (λ (x : Edge). x.weight) (site.edges_of (site.read_site (min (length F) (min (length S) (length W))) file))) (length W)
