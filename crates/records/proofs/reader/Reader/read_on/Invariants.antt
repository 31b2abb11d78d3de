use Rattle.std.proofs.Common.{◌≡◌, ◌-◌, length}
use Rattle.records.specs.Site.{read_from, reached}
use Rattle.records.specs.View.{view_of, Same}
use Rattle.records.proofs.Judged.{Left}
use Rattle.records.proofs.Passed.{SoFar}
use Rattle.records.proofs.reader.Reader.read_on.Given as goal

abbrev pub invariant-loop-self : goal.invariant-loop-self
invariant-loop-self l =
    let file = l.fn.self.file.now in
    let s = view_of l.fn.self.place l.fn.d in
    (l.self.file ≡ l.fn.self.file) × Same l.fn.d l.d
    × Left l.self.file.now (read_from (length file) file s) (reached (length file) file s) (view_of l.self.place l.d)
    × SoFar l.fn.d l.d

abbrev pub decreases-loop-self : goal.decreases-loop-self
decreases-loop-self l = length l.self.file.now - l.self.place
