use Rattle.std.proofs.Common.{w64}
use mir.ValLaws.{to_z-of_z}
use Rattle.numbers.proofs.NearLaws.{set_near}
use Rattle.state.proofs.Duals.{dual_stored}
use Rattle.state.proofs.pairing.Pairing.set_dual.Goals as goal

pub returns-clause-stays : goal.returns-clause-stays
returns-clause-stays c k near l =
    let s = c.self.inside in
    let before = rw (← c.self.view_is) at l in
    rw (c.store.ensures.told, to_z-of_z w64 c.args.d c.ranges.d) (set_near k s.duals.now c.args.i c.args.d before near)

pub invariant_of-self : goal.invariant_of-self
invariant_of-self c =
    let s = c.self.inside in
    rw (c.store.ensures.told, to_z-of_z w64 c.args.d c.ranges.d) (dual_stored s.n c.args.i c.args.d s.mates.now s.duals.now c.self.invariant c.requires)
