use Rattle.std.proofs.Common.{ap, ◌∙◌}
use Rattle.steps.specs.Check.{judgement_number, judgement_place}
use Rattle.lotamife.proofs.lotamife_check.Goals as goal

pub returns : goal.returns
returns c =
    let number = c.number in
    let place = c.place in
    let check = c.check-verdict in
    (number.ensures ∙ ap judgement_number check.ensures, place.ensures ∙ ap judgement_place check.ensures)
