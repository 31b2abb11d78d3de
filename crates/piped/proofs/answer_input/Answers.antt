use Rattle.std.proofs.Common.{arith}
use Rattle.piped.proofs.InputLaws.{told_text, told_status}
use Rattle.piped.proofs.answer_input.Goals as goal

pub returns-clause-text : goal.returns-clause-text
returns-clause-text g c = told_text _ _ _ c.in_ok-size.ensures.bytes _ (omega arith) _ _ c.answer.ensures.text

pub returns-clause-status : goal.returns-clause-status
returns-clause-status g c = told_status _ _ _ c.in_ok-size.ensures.bytes _ (omega arith) c.answer.ensures.status
