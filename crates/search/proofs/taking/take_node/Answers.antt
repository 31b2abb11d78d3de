use Rattle.search.proofs.VisitLaws.{take_on}
use Rattle.search.proofs.taking.take_node.Goals as goal

pub returns-clause-said : goal.returns-clause-said
returns-clause-said c = λ at h. rw (take_on _ _ _ _ _ c.in_ok-v.ensures.said (c.in_ok-v.ensures.rest at)) (c.visit_from.ensures.said at h)
