-- The plan call answers the number 0 where it is DONE, and there alone.
use mathlib.Core.Path.{◌≡◌, refl}
use native.Mathlib.Omega.{arith}
use Rattle.steps.specs.Refusals.{NODES, EDGES, BUFFER, END, LOOP, WEIGHT}
use Rattle.steps.specs.Plan.{Answer, DONE, STEPS, FAULT, REFUSED, answer_number}

pub zero_done : (a : Answer) → answer_number a ≡ 0 → a ≡ DONE
zero_done DONE h = refl
zero_done STEPS h = let no_way : ⊥ = omega arith in absurd no_way
zero_done FAULT h = let no_way : ⊥ = omega arith in absurd no_way
zero_done (REFUSED NODES) h = let no_way : ⊥ = omega arith in absurd no_way
zero_done (REFUSED EDGES) h = let no_way : ⊥ = omega arith in absurd no_way
zero_done (REFUSED BUFFER) h = let no_way : ⊥ = omega arith in absurd no_way
zero_done (REFUSED (END e)) h = let no_way : ⊥ = omega arith in absurd no_way
zero_done (REFUSED (LOOP e)) h = let no_way : ⊥ = omega arith in absurd no_way
zero_done (REFUSED (WEIGHT e)) h = let no_way : ⊥ = omega arith in absurd no_way
