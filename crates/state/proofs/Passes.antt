-- Pass i of n of a loop that the definition says by `while`.
use Rattle.std.proofs.Common.{◌≡◌, ◌-◌, ◌+◌, ◌<◌, ℕ, Bool, true, arith, sym}
use Rattle.laws.specs.Run.{Run, ok, while}
use Rattle.laws.proofs.Runs.{while_pass}

pub while_next : {S : Type 0} (test : S → Run Bool) (body : S → Run S) (n i : ℕ) (s t : S) → i < n → test s ≡ ok true → body s ≡ ok t
    → while test body (n - (i + 1)) t ≡ while test body (n - i) s
while_next test body n i s t l h e = let a : n - (i + 1) ≡ n - i - 1 = omega arith in rw a (sym (while_pass test body (n - i) s t (omega arith) h e))
