-- What the functions below `plan_site` print and may ask for.
use Rattle.std.specs.Prelude.{Bool, List, ℕ, ◌*◌, ℤ}
use Rattle.matching.specs.Graph.{Graph}
use Rattle.certificate.specs.Lists.{lent, room}
use Rattle.numbers.specs.Near.{Near}
use Rattle.printed.specs.Answer.{printed}
use Rattle.plan.specs.View.{plan_lists}
use Rattle.sites.specs.Answered.{is_done}
use Rattle.sites.specs.declared.site.Site.{Site}
use Rattle.plan.specs.declared.answers.Answer as answer
use Rattle.plan.specs.declared.answers.Answer.TheVariants as answers

-- where a plan is done its edges were not refused, so their weights are near zero
abbrev pub Weighs : answer.Answer → (weight : List ℤ) → Type 0
Weighs (answers.Done k) weight = Near 1000000000 weight
Weighs (answers.Steps k) weight = Unit {0}
Weighs (answers.Fault k) weight = Unit {0}
Weighs (answers.Refused c) weight = Unit {0}

-- the plan of three lists of edges, in lists of just the length that it needs, printed
unfoldable pub plan_text : (n : ℕ) → (first second : List ℕ) → (weight : List ℤ) → (flag : Bool) → (budget : ℕ) → List ℕ
plan_text n first second weight flag budget =
    printed (lent n first second weight) (plan_lists (room n (2 * n) (2 * n)) n first second weight flag budget)

-- whether it is done
unfoldable pub plan_done : (n : ℕ) → (first second : List ℕ) → (weight : List ℤ) → (flag : Bool) → (budget : ℕ) → Bool
plan_done n first second weight flag budget = is_done (plan_lists (room n (2 * n) (2 * n)) n first second weight flag budget).answer

abbrev pub graph_in : Site → Graph
graph_in s = lent s.n s.first.now s.second.now s.weight.now

abbrev pub site_text : Site → List ℕ
site_text s = plan_text s.n s.first.now s.second.now s.weight.now s.flag s.budget

abbrev pub site_done : Site → Bool
site_done s = plan_done s.n s.first.now s.second.now s.weight.now s.flag s.budget
