use Rattle.std.proofs.Common.{arith, rules, sym, ◌∙◌}
use Rattle.std.specs.Prelude.{Ok}
use Rattle.search.proofs.RunLaws.{run_ends, run_steps, stepped}
use Rattle.search.proofs.StandLaws.{run_stands}
use Rattle.search.proofs.search.Search.run.Goals as goal

pub loop-s-preserved : goal.loop-s-preserved
loop-s-preserved c =
    let fine = stepped _ c.step.result c.map_err.result c.in_ok-s.s c.map_err.ensures.cases c.map_err.ensures.variant c.in_ok-s.was in
    let ready = rw fine at c.step.ensures.ready in
    let said = rw fine at c.step.ensures.said in
    record {
      within = omega arith;
      ready = ready;
      rest = run_steps _ _ _ _ _ _ _ (omega arith) (search rules) said ∙ c.loop-s.invariant.rest;
    }

pub returns-clause-stands : goal.returns-clause-stands
returns-clause-stands c = λ z q. run_stands _ z _ _ _ (Ok (c.loop-s.s, c.loop-s.count)) (sym c.loop-s.invariant.rest ∙ run_ends _ _ _ _ _ (search rules)) q
