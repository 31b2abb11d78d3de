-- The lent lists as a list of edges: its length, and one edge more; and what each record's code does to what has been read.
use mathlib.Core.Path.{◌≡◌, refl, sym, ap, ◌∙◌}
use mathlib.Core.List.{List, [], ◌∷◌, ◌++◌}
use Prim.Native.Nat.{ℕ, zero, suc, ◌+◌, ◌≤◌, ◌<◌, zero-le}
use native.Mathlib.Numerals.{add-one}
use native.Mathlib.Omega.{arith}
use lib.Dec.{leb}
use lib.IntN.{ℤ}
use lib.ListN.{length, set, take}
use lib.Seq.{take-suc-set, length-take-le}
use Rattle.matching.specs.Graph.{Edge, edge, edges_from}
use Rattle.steps.specs.Refusals.{max_edges}
use Rattle.records.specs.Site.{is_full}
use Rattle.records.specs.View.{edges_in, view_of}
use Rattle.records.specs.declared.draft.Draft.{Draft}

-- ---- three lists side by side

pub from_least : (m : ℕ) (xs ys : List ℕ) (zs : List ℤ) → m ≤ length xs → m ≤ length ys → m ≤ length zs → m ≤ length (edges_from xs ys zs)
from_least zero xs ys zs f g h = zero-le
from_least (suc m) (x ∷ xs) (y ∷ ys) (z ∷ zs) f g h = omega (arith, from_least m xs ys zs (omega arith) (omega arith) (omega arith))
from_least (suc m) (x ∷ xs) (y ∷ ys) [] f g h = let no_way : ⊥ = omega arith in absurd no_way
from_least (suc m) (x ∷ xs) [] zs f g h = let no_way : ⊥ = omega arith in absurd no_way
from_least (suc m) [] ys zs f g h = let no_way : ⊥ = omega arith in absurd no_way

pub from_most : (xs ys : List ℕ) (zs : List ℤ) → length (edges_from xs ys zs) ≤ length xs
from_most (x ∷ xs) (y ∷ ys) (z ∷ zs) = omega (arith, from_most xs ys zs)
from_most (x ∷ xs) (y ∷ ys) [] = zero-le
from_most (x ∷ xs) [] zs = zero-le
from_most [] ys zs = zero-le

from_snoc : (xs ys : List ℕ) (zs : List ℤ) (x y : ℕ) (z : ℤ) → length xs ≡ length ys → length xs ≡ length zs
    → edges_from (xs ++ (x ∷ [])) (ys ++ (y ∷ [])) (zs ++ (z ∷ [])) ≡ edges_from xs ys zs ++ (edge x y z ∷ [])
from_snoc [] [] [] x y z e f = refl
from_snoc [] [] (c ∷ zs) x y z e f = let no_way : ⊥ = omega arith in absurd no_way
from_snoc [] (b ∷ ys) zs x y z e f = let no_way : ⊥ = omega arith in absurd no_way
from_snoc (a ∷ xs) [] zs x y z e f = let no_way : ⊥ = omega arith in absurd no_way
from_snoc (a ∷ xs) (b ∷ ys) [] x y z e f = let no_way : ⊥ = omega arith in absurd no_way
from_snoc (a ∷ xs) (b ∷ ys) (c ∷ zs) x y z e f = ap {B = List Edge} (λ t. edge a b c ∷ t) (from_snoc xs ys zs x y z (omega arith) (omega arith))

module _ (F S : List ℕ) (W : List ℤ) (k : ℕ) where
  module _ (f : k ≤ length F) (g : k ≤ length S) (h : k ≤ length W) where
    pub counted : length (edges_in k F S W) ≡ k
    counted =
        let lf = length-take-le k F f in
        let ls = length-take-le k S g in
        let lw = length-take-le k W h in
        let least = from_least k (take k F) (take k S) (take k W) (omega (arith, lf)) (omega (arith, ls)) (omega (arith, lw)) in
        omega (arith, lf, from_most (take k F) (take k S) (take k W), least)

  module _ (f : k < length F) (g : k < length S) (h : k < length W) where
    pub one_more : (a b : ℕ) (w : ℤ) → edges_in (k + 1) (set F k a) (set S k b) (set W k w) ≡ edges_in k F S W ++ (edge a b w ∷ [])
    one_more a b w =
        rw (add-one k, take-suc-set F k a f, take-suc-set S k b g, take-suc-set W k w h)
        (from_snoc (take k F) (take k S) (take k W) a b w
        (length-take-le k F (omega arith) ∙ sym (length-take-le k S (omega arith)))
        (length-take-le k F (omega arith) ∙ sym (length-take-le k W (omega arith))))

-- a draft is full when so many edges have been counted
pub full : (p : ℕ) (d : Draft) → is_full (view_of p d) ≡ leb max_edges d.read.count
unfolding is_full
full p d =
    let few = d.read.few_edges in
    rw (counted d.first.now d.second.now d.weight.now d.read.count
    (omega (arith, few, d.room_first)) (omega (arith, few, d.room_second)) (omega (arith, few, d.room_weight)))
