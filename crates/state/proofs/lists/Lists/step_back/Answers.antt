use Rattle.steps.specs.Scan.{step_back}
use Rattle.state.proofs.lists.Lists.step_back.Goals as goal

pub returns : goal.returns
unfolding step_back
returns c at =
    let m = rw (← c.self.view_is) at (c.in_ok-m.ensures at) in let o = rw (← c.self.view_is) at (c.over_label_two.ensures at) in
    let t = rw c.eq.ensures at c.in_ok-must.ensures in let f = rw c.is_missing.ensures at c.if-is_missing.false in
    rw (← c.self.view_is, c.in_ok-e.ensures, m, t, f) o
