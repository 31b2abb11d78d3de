use Rattle.std.proofs.Common.{◌≡◌, ℕ, ◌<◌, ◌≤◌, List, ℤ, pos, length, replicate, get_or, arith, rules, w64, add-one}
use lib.ListN.{length-replicate}
use borrow.Author.Tests.{le-leb, lt-leb}
use mir.ValLaws.{to_z-of_z}
use Rattle.entries.specs.Entries.{laid, first_of, second_of, weight_of, chosen, held, lists_at, lists_of}
use Rattle.entries.specs.declared.EdgeEntry.{EdgeEntry}
use Rattle.entries.specs.declared.EdgeLists.{EdgeLists}
use Rattle.entries.proofs.Laid.{laid_set, laid_none}
use Rattle.entries.proofs.split.Goals as goal

made : (es : List EdgeEntry) (i : ℕ) (f s : List ℕ) (w : List ℤ) → held es ≡ i → f ≡ laid first_of i es (replicate 2048 0)
    → s ≡ laid second_of i es (replicate 2048 0) → w ≡ laid weight_of i es (replicate 2048 (pos 0))
    → ◌≡◌ {A = EdgeLists} (record { first = f; second = s; weight = w; count = length es }) (lists_of es)
unfolding lists_of lists_at
made es i f s w h x y z = rw (h, x, y, z)

all : (es : List EdgeEntry) (i : ℕ) → length es ≤ 2048 → i ≤ length es → length es ≤ i → held es ≡ i
unfolding held chosen
all es i l a b = rw (le-leb _ _ l) (omega arith)

none : (es : List EdgeEntry) → 2048 < length es → held es ≡ 0
unfolding held chosen
none es l = rw (lt-leb _ _ l)

pub loop-i-init : goal.loop-i-init
loop-i-init c =
    let es = c.args.edges.now in
    (omega arith, laid_none first_of es _, laid_none second_of es _, laid_none weight_of es _)

pub loop-i-preserved : goal.loop-i-preserved
loop-i-preserved c =
    let es = c.args.edges.now in let l = c.loop-i in
    let n : length (replicate {A = ℕ} 2048 0) ≡ 2048 = length-replicate {A = ℕ} 2048 0 in
    let m : length (replicate {A = ℤ} 2048 (pos 0)) ≡ 2048 = length-replicate {A = ℤ} 2048 (pos 0) in
    let d : EdgeEntry = record { first = 0; second = 0; weight = pos 0 } in (
      omega arith,
      rw (l.invariant.1, add-one) (laid_set first_of l.i es (replicate 2048 0) d (omega arith) (omega arith)),
      rw (l.invariant.2, add-one) (laid_set second_of l.i es (replicate 2048 0) d (omega arith) (omega arith)),
      rw (to_z-of_z w64 (get_or es l.i d).weight (search rules), l.invariant.3, add-one)
          (laid_set weight_of l.i es (replicate 2048 (pos 0)) d (omega arith) (omega arith)),
    )

pub returns-after-loop-i : goal.returns-after-loop-i
returns-after-loop-i c =
    let l = c.loop-i in
    made c.args.edges.now l.i l.first l.second l.weight (all _ _ (omega arith) (omega arith) (omega arith)) l.invariant.1 l.invariant.2 l.invariant.3

pub returns-else-count-le2048 : goal.returns-else-count-le2048
returns-else-count-le2048 c =
    let es = c.args.edges.now in
    made es 0 _ _ _ (none es (omega arith)) (laid_none first_of es _) (laid_none second_of es _) (laid_none weight_of es _)
