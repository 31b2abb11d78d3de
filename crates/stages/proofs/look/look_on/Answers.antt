use Rattle.std.proofs.Common.{rules, ap, sym, ◌∙◌, ◌≡◌, ◌∷◌, ◌/◌}
use Rattle.laws.specs.Run.{ok, at}
use Rattle.matching.specs.Graph.{is_group}
use Rattle.steps.specs.State.{State, Progress, searching}
use Rattle.steps.specs.Steps.{visit}
use Rattle.steps.specs.Stores.{put_best}
use Rattle.state.specs.Parts.{state_of}
use Rattle.stages.specs.Look.{Turns}
use Rattle.stages.specs.declared.look.Seen.TheVariants.{Pass, Own}
use Rattle.stages.proofs.Looks.{passed, owned, seen, stored_fine, stored_not, row_on, only_best, keen_now}
use Rattle.stages.proofs.look.look_on.Goals as goal

any_time : Progress
any_time = record { stage = 0; phase = searching }

pub returns-then-is_err-clause-best : goal.returns-then-is_err-clause-best
returns-then-is_err-clause-best c at =
    let l = c.loop-p in
    rw (stored_not c.put_best.result l.lists c.put_best.new.self c.put_best.ensures.kept (sym c.if-is_err.true ∙ c.is_err.ensures.value)) (l.invariant.best at)

pub loop-p-preserved-in-Pass : goal.loop-p-preserved-in-Pass
loop-p-preserved-in-Pass c =
    let a = c.args in let l = c.loop-p in let g = a.g.now in let b = c.in-Ok.group in let p = c.of-p.result in
    let first : l.left.now ≡ p ∷ c.in-Some.rest.now = rw c.of-p.ensures (search rules) in
    let top : at l.lists.forest.lists.tops a.v ≡ ok b = ap (λ (t : State). at t.forest.tops a.v) (l.invariant.best any_time) ∙ c.in-Ok.ensures.said in
    record {
      end = row_on a.row.now l.left.now c.in-Some.rest.now p l.invariant.end first;
      keen = l.invariant.keen;
      best = l.invariant.best;
      kids = l.invariant.kids;
      size = l.invariant.size;
      others = l.invariant.others;
      rest = λ turns here o.
          let looked = c.look.ensures turns here a.v top l.invariant.keen in
          let see = seen c.look.result Pass g b (p / 2) (visit turns g a.v p) l.lists here looked c.in-Pass.ensures in
          passed turns g a.v p c.in-Some.rest.now (state_of l.lists here) o see
          ∙ rw (← first) (l.invariant.rest turns here o);
    }

pub loop-p-preserved : goal.loop-p-preserved
loop-p-preserved c =
    let a = c.args in let l = c.loop-p in let g = a.g.now in let b = c.in-Ok.group in let p = c.of-p.result in let s = c.put_best.new.self in
    let first : l.left.now ≡ p ∷ c.in-Some.rest.now = rw c.of-p.ensures (search rules) in
    let top : at l.lists.forest.lists.tops a.v ≡ ok b = ap (λ (t : State). at t.forest.tops a.v) (l.invariant.best any_time) ∙ c.in-Ok.ensures.said in
    let put : (here : Progress) → put_best b (p / 2) (state_of l.lists here) ≡ ok (state_of s here) =
    λ here. rw (← c.edge.ensures) (stored_fine (put_best b c.edge.result (state_of l.lists here)) c.put_best.result (state_of s here)
    (rw c.number-in-Own.ensures at (c.put_best.ensures.said here)) (sym c.if-is_err.false ∙ c.is_err.ensures.value)) in
    let see = λ (turns : Turns) (here : Progress).
    seen c.look.result (Own c.in-Own.k) g b (p / 2) (visit turns g a.v p) l.lists here (c.look.ensures turns here a.v top l.invariant.keen)
    c.in-Own.ensures in
    let own = see is_group any_time in
    let keen = keen_now g b (p / 2) c.in-Own.k l.lists s any_time (put any_time) own.0 own.1 in
    record {
      end = row_on a.row.now l.left.now c.in-Some.rest.now p l.invariant.end first;
      keen = search (rules, keen);
      best = λ at. only_best b (p / 2) l.lists s a.lists.now at (l.invariant.best at) (put at);
      kids = search rules;
      size = search rules;
      others = search rules;
      rest = λ turns here o.
          owned turns g a.v p c.in-Some.rest.now (state_of l.lists here) (state_of s here) o ((see turns here).2 ∙ put here)
          ∙ rw (← first) (l.invariant.rest turns here o);
    }
