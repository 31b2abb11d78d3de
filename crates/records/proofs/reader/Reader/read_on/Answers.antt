use Rattle.std.proofs.Common.{rules, sym, subst, ◌<◌, ◌≤◌, length}
use Rattle.records.specs.View.{Stands}
use Rattle.records.proofs.Judged.{turn, stop, halt, over, cut, whole}
use Rattle.records.proofs.Passed.{stands_at, one_taken}
use Rattle.records.proofs.reader.Reader.read_on.Goals as goal

pub returns-in-Err-clause-said : goal.returns-in-Err-clause-said
returns-in-Err-clause-said c =
    let l : c.loop-self.self.place < length c.loop-self.self.file.now = search rules in
    stop _ _ _ _ c.loop-self.invariant.2 l _ c.in-Err.ensures.said _ c.in-Err.ensures.stays

pub returns-then-not-d-clause-said : goal.returns-then-not-d-clause-said
returns-then-not-d-clause-said c =
    let l : length c.loop-self.self.file.now ≤ c.loop-self.self.place = search rules in
    cut _ _ _ _ c.loop-self.invariant.2 l c.if-not-d.true _ (search rules)

pub returns-clause-said : goal.returns-clause-said
returns-clause-said c =
    let l : length c.loop-self.self.file.now ≤ c.loop-self.self.place = search rules in
    whole _ _ _ _ c.loop-self.invariant.2 l c.if-not-d.false _ (search rules)

pub returns-in-Err-clause-stands : goal.returns-in-Err-clause-stands
returns-in-Err-clause-stands c =
    let l : c.loop-self.self.place < length c.loop-self.self.file.now = search rules in
    subst (Stands _) (sym c.in-Err.ensures.rest) (stands_at _ c.loop-self.d _ (halt _ _ _ _ c.loop-self.invariant.2 l _ c.in-Err.ensures.said))

pub returns-then-not-d-clause-stands : goal.returns-then-not-d-clause-stands
returns-then-not-d-clause-stands c =
    let l : length c.loop-self.self.file.now ≤ c.loop-self.self.place = search rules in
    stands_at _ c.loop-self.d _ (over _ _ _ _ c.loop-self.invariant.2 l)

pub returns-clause-stands : goal.returns-clause-stands
returns-clause-stands c =
    let l : length c.loop-self.self.file.now ≤ c.loop-self.self.place = search rules in
    stands_at _ c.loop-self.d _ (over _ _ _ _ c.loop-self.invariant.2 l)

pub loop-self-preserved : goal.loop-self-preserved
loop-self-preserved c =
    let i = c.loop-self.invariant in
    let l : c.loop-self.self.place < length c.loop-self.self.file.now = search rules in (
      search rules,
      search rules,
      rw c.in_default.ensures.file (turn _ _ _ _ i.2 l _ c.in_default.ensures.said c.in_default.ensures.on),
      one_taken _ c.loop-self.d c.take.new.d _ _ _ i.3 c.in_default.ensures.said c.in_default.ensures.rest,
    )
