use Rattle.state.proofs.forest.Forest.child_count.Goals as goal

pub returns-clause-said : goal.returns-clause-said
returns-clause-said c = rw (← c.self.view_is, ← c.number.ensures) (c.count.ensures.said c.self.inside.n c.self.invariant.in_children)
