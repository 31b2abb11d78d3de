use Rattle.std.proofs.Common.{ap, ◌∙◌, List, ℕ}
use Rattle.printed.specs.Page.{page, with_text}
use Rattle.sites.proofs.ReadLaws.{complained, not_done}
use Rattle.sites.proofs.answer_file.Goals as goal

pub returns-in-Err-clause-done : goal.returns-in-Err-clause-done
returns-in-Err-clause-done c =
    let a = c.args in
    not_done a.file.now a.first.now a.second.now a.weight.now c.requires.0 c.requires.1 c.requires.2 _ _ _ _ c.read_site.ensures _ c.in-Err.is

pub returns-in-Err-clause-text : goal.returns-in-Err-clause-text
returns-in-Err-clause-text c =
    let a = c.args in
    let e = complained a.file.now a.first.now a.second.now a.weight.now c.requires.0 c.requires.1 c.requires.2 _ _ _ _ c.read_site.ensures _ c.in-Err.is in
    let before = page a.text.now.out.now a.text.now.len in
    (c.put_complaint.ensures.0 ∙ ap (λ (t : List ℕ). with_text t before) e, c.put_complaint.ensures.1)
