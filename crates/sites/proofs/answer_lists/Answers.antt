use Rattle.std.proofs.Common.{ap, ◌∙◌, List, ℕ}
use Rattle.printed.specs.Page.{page, with_text}
use Rattle.sites.proofs.DoneLaws.{weighs, lists_text, lists_done}
use Rattle.sites.proofs.answer_lists.Goals as goal

pub put_answer-requires-clause-weighs : goal.put_answer-requires-clause-weighs
put_answer-requires-clause-weighs c =
    let s = c.args.site in
    weighs _ s.n s.first.now s.second.now s.weight.now s.flag s.budget _ _ _ _ (rw c.from.ensures at c.plan-answer.ensures.said)

pub returns-clause-done : goal.returns-clause-done
returns-clause-done c =
    let s = c.args.site in
    let r = c.plan-answer in
    c.put_answer.ensures.done
    ∙ lists_done s.n s.first.now s.second.now s.weight.now s.flag s.budget _ (rw c.from.ensures at r.ensures.said) c.requires.0 c.requires.1 c.requires.2

pub returns-clause-text : goal.returns-clause-text
returns-clause-text c =
    let s = c.args.site in
    let r = c.plan-answer in
    let e = lists_text s.n s.first.now s.second.now s.weight.now s.flag s.budget _ (rw c.from.ensures at r.ensures.said)
    c.requires.0 c.requires.1 c.requires.2 in
    let before = page c.args.text.now.out.now c.args.text.now.len in
    let put = c.put_answer.ensures.text r.new.duals r.new.parents in
    (put.0 ∙ ap (λ (t : List ℕ). with_text t before) e, put.1)
