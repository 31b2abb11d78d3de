use Rattle.std.proofs.Common.{rules, ◌≡◌, List, ℕ, ◌+◌, ◌*◌, ◌<◌, ◌^◌, arith, ℤ, pos, get_or, w64, to_z, of_z}
use mir.ValLaws.{to_z-of_z}
use Rattle.laws.proofs.Integers.{fits_near}
use Rattle.numbers.specs.Near.{Near}
use Rattle.edges.proofs.Lent.{slack_none, slack_first, slack_second, slack_some}
use Rattle.edges.proofs.graph.Graph.slack.Goals as goal

plain : (k : ℕ) (l : List ℤ) (i : ℕ) → Near k l → k < 2 ^ 63 → to_z w64 (of_z w64 (get_or l i (pos 0))) ≡ get_or l i (pos 0)
plain k l i n h = to_z-of_z w64 (get_or l i (pos 0)) (fits_near (get_or l i (pos 0)) (omega (arith, n.near i)))

pub returns-then-k-self-clause-said : goal.returns-then-k-self-clause-said
returns-then-k-self-clause-said c =
    rw (← c.number-k.ensures) (slack_none _ _ _ _ c.self.view_is c.self.invariant.pairs _ _ c.if-k-self.true)

pub returns-then-a-duals-clause-said : goal.returns-then-a-duals-clause-said
returns-then-a-duals-clause-said c =
    rw (← c.number-k.ensures) (slack_first _ _ _ _ c.self.view_is c.self.invariant.pairs _ _ c.if-k-self.false c.if-a-duals.true)

pub returns-then-b-duals-clause-said : goal.returns-then-b-duals-clause-said
returns-then-b-duals-clause-said c =
    rw (← c.number-k.ensures)
    (slack_second _ _ _ _ c.self.view_is c.self.invariant.pairs _ _ c.if-k-self.false c.if-a-duals.false c.if-b-duals.true)

pub returns-clause-said : goal.returns-clause-said
returns-clause-said c =
    let s = c.self.inside in let k = c.number-k.result in let i = c.self.invariant in let duals = c.args.duals.now in
    let u = plain 4503599627370496 duals (get_or s.ends.now (2 * k) 0) c.requires (omega arith) in
    let v = plain 4503599627370496 duals (get_or s.ends.now (2 * k + 1) 0) c.requires (omega arith) in
    let w = plain 1000000000 s.weights.now k i.near (omega arith) in
    rw (← c.number-k.ensures, to_z-of_z w64 c.less_twice.result (search rules), c.less_twice.ensures.said, u, v, w)
    (slack_some _ _ _ _ c.self.view_is i.pairs k duals c.if-k-self.false c.if-a-duals.false c.if-b-duals.false)
