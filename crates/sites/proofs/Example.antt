-- Document 01's example: the printed bytes of its bytes.
use mathlib.Core.Path.{◌≡◌, refl, ap, ◌∙◌}
use mathlib.Core.Bool.{false}
use mathlib.Core.List.{List}
use Prim.Native.Nat.{ℕ}
use Rattle.steps.specs.Table.{path}
use Rattle.records.specs.Site.{read, read_site}
use Rattle.records.proofs.Worked.{example, reads, example_reads}
use Rattle.printed.proofs.Example.{text, prints, example_prints}
use Rattle.sites.specs.Answered.{plan_of_site, answered_as, answered}

same_reading : (file : List ℕ) → read_site 2048 file ≡ reads file
unfolding reads
same_reading file = refl

path_text : answered_as (read (record { nodes = 4; flag = false; budget = 160; edges = path })) ≡ text
unfolding answered_as plan_of_site prints
path_text = example_prints

pub example_answered : answered example ≡ text
example_answered = ap answered_as (same_reading example ∙ example_reads) ∙ path_text
