use Rattle.std.proofs.Common.{◌≡◌}
use Rattle.laws.specs.Lists.{range}
use Rattle.printed.specs.Answer.{pairs_at, pair_lines}
use Rattle.printed.specs.Found.{graph_in}
use Rattle.printed.specs.Page.{page, with_text}
use Rattle.printed.proofs.text.Text.put_pairs.Given as goal

abbrev pub invariant-loop-v : goal.invariant-loop-v
invariant-loop-v l =
    let lines = pair_lines (pairs_at (graph_in l.plan) l.plan.mates.now (range 0 l.v)) in
    (l.self.out.ghost_name ≡ l.fn.self.out.ghost_name) × (page l.self.out.now l.self.len ≡ with_text lines (page l.fn.self.out.now l.fn.self.len))
