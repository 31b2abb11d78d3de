use Rattle.state.proofs.Duals.{dual_near}
use Rattle.state.proofs.pairing.Pairing.dual.Goals as goal

pub returns-clause-near : goal.returns-clause-near
returns-clause-near c = dual_near 4503599627370496 c.self.inside.duals.now c.args.i c.read.result c.self.invariant.near c.read.ensures.said
