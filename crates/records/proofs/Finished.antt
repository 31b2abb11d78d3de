-- The answer of the whole reader and the lent lists, once every entry past the edges is 0.
use Rattle.std.specs.Prelude.{Result, Ok, Err}
use mathlib.Core.Path.{◌≡◌, refl, sym, ap, ◌∙◌}
use mathlib.Core.List.{List, [], ◌∷◌, ◌++◌, map}
use Prim.Native.Nat.{ℕ, min, ◌-◌, ◌≤◌}
use native.Mathlib.Omega.{arith}
use lib.IntN.{ℤ, pos}
use lib.ListN.{length, take, replicate}
use lib.Seq.{length-take-le}
use Rattle.matching.specs.Graph.{Edge, edges_from}
use Rattle.records.specs.Site.{read_site, told, edges_of}
use Rattle.records.specs.View.{edges_in}
use Rattle.records.specs.WholeView.{told_by, site_view, edge_count, padded, ReadAs}
use Rattle.records.specs.declared.site.Head.{Head}
use Rattle.records.specs.declared.site.Refused.{Refused}
use Rattle.records.proofs.Edges.{counted}

-- ---- the three lists of a list of edges

firsts_of : (xs ys : List ℕ) (zs : List ℤ) → length xs ≡ length ys → length xs ≡ length zs → map (λ (x : Edge). x.first) (edges_from xs ys zs) ≡ xs
firsts_of [] ys zs e f = refl
firsts_of (x ∷ xs) [] zs e f = let no_way : ⊥ = omega arith in absurd no_way
firsts_of (x ∷ xs) (y ∷ ys) [] e f = let no_way : ⊥ = omega arith in absurd no_way
firsts_of (x ∷ xs) (y ∷ ys) (z ∷ zs) e f = ap {B = List ℕ} (λ t. x ∷ t) (firsts_of xs ys zs (omega arith) (omega arith))

seconds_of : (xs ys : List ℕ) (zs : List ℤ) → length xs ≡ length ys → length xs ≡ length zs → map (λ (x : Edge). x.second) (edges_from xs ys zs) ≡ ys
seconds_of [] [] zs e f = refl
seconds_of [] (y ∷ ys) zs e f = let no_way : ⊥ = omega arith in absurd no_way
seconds_of (x ∷ xs) [] zs e f = let no_way : ⊥ = omega arith in absurd no_way
seconds_of (x ∷ xs) (y ∷ ys) [] e f = let no_way : ⊥ = omega arith in absurd no_way
seconds_of (x ∷ xs) (y ∷ ys) (z ∷ zs) e f = ap {B = List ℕ} (λ t. y ∷ t) (seconds_of xs ys zs (omega arith) (omega arith))

weights_of : (xs ys : List ℕ) (zs : List ℤ) → length xs ≡ length ys → length xs ≡ length zs → map (λ (x : Edge). x.weight) (edges_from xs ys zs) ≡ zs
weights_of [] ys [] e f = refl
weights_of [] ys (z ∷ zs) e f = let no_way : ⊥ = omega arith in absurd no_way
weights_of (x ∷ xs) [] zs e f = let no_way : ⊥ = omega arith in absurd no_way
weights_of (x ∷ xs) (y ∷ ys) [] e f = let no_way : ⊥ = omega arith in absurd no_way
weights_of (x ∷ xs) (y ∷ ys) (z ∷ zs) e f = ap {B = List ℤ} (λ t. z ∷ t) (weights_of xs ys zs (omega arith) (omega arith))

module _ (k : ℕ) (F S : List ℕ) (W : List ℤ) (f : k ≤ length F) (g : k ≤ length S) (h : k ≤ length W) where
  lf : length (take k F) ≡ k
  lf = length-take-le k F f

  ls : length (take k F) ≡ length (take k S)
  ls = lf ∙ sym (length-take-le k S g)

  lw : length (take k F) ≡ length (take k W)
  lw = lf ∙ sym (length-take-le k W h)

  firsts_in : map (λ (x : Edge). x.first) (edges_in k F S W) ≡ take k F
  firsts_in = firsts_of (take k F) (take k S) (take k W) ls lw

  seconds_in : map (λ (x : Edge). x.second) (edges_in k F S W) ≡ take k S
  seconds_in = seconds_of (take k F) (take k S) (take k W) ls lw

  weights_in : map (λ (x : Edge). x.weight) (edges_in k F S W) ≡ take k W
  weights_in = weights_of (take k F) (take k S) (take k W) ls lw

-- cleared from k on, a list is its first k entries padded
as_padded : {A : Type 0} (v : A) (k : ℕ) (l xs : List A) → k ≤ length l → xs ≡ take k l → take k l ++ replicate (length l - k) v ≡ padded v xs (length l)
as_padded v k l xs h e = rw (e, length-take-le k l h)

module _ (F S : List ℕ) (W : List ℤ) where
  answers_of : (r : Result Head Refused) → edge_count r ≤ length F → edge_count r ≤ length S → edge_count r ≤ length W
      → told_by r ≡ told (site_view r F S W)
  answers_of (Ok x) f g h = rw (counted F S W x.edges f g h)
  answers_of (Err e) f g h = refl

  firsts_all : (r : Result Head Refused) → edge_count r ≤ length F → edge_count r ≤ length S → edge_count r ≤ length W
      → map (λ (x : Edge). x.first) (edges_of (site_view r F S W)) ≡ take (edge_count r) F
  firsts_all (Ok x) f g h = firsts_in x.edges F S W f g h
  firsts_all (Err e) f g h = refl

  seconds_all : (r : Result Head Refused) → edge_count r ≤ length F → edge_count r ≤ length S → edge_count r ≤ length W
      → map (λ (x : Edge). x.second) (edges_of (site_view r F S W)) ≡ take (edge_count r) S
  seconds_all (Ok x) f g h = seconds_in x.edges F S W f g h
  seconds_all (Err e) f g h = refl

  weights_all : (r : Result Head Refused) → edge_count r ≤ length F → edge_count r ≤ length S → edge_count r ≤ length W
      → map (λ (x : Edge). x.weight) (edges_of (site_view r F S W)) ≡ take (edge_count r) W
  weights_all (Ok x) f g h = weights_in x.edges F S W f g h
  weights_all (Err e) f g h = refl

-- file; the lent lists at entry; the answer; the lent lists with the edges at their front; k entries kept; the lent lists at exit
module _ (file F S : List ℕ) (W : List ℤ) (r : Result Head Refused) (F₁ S₁ : List ℕ) (W₁ : List ℤ) where
  module _ (e : site_view r F₁ S₁ W₁ ≡ read_site (min (length F) (min (length S) (length W))) file) (k : ℕ) (q : k ≡ edge_count r) where
    module _ (f : edge_count r ≤ length F) (g : edge_count r ≤ length S) (h : edge_count r ≤ length W) where
      module _ (l_f : length F₁ ≡ length F) (l_s : length S₁ ≡ length S) (l_w : length W₁ ≡ length W) where
        a : edge_count r ≤ length F₁
        a = omega arith

        b : edge_count r ≤ length S₁
        b = omega arith

        c : edge_count r ≤ length W₁
        c = omega arith

        pub finished : {F₂ S₂ : List ℕ} {W₂ : List ℤ} → F₂ ≡ take k F₁ ++ replicate (length F₁ - k) 0 → S₂ ≡ take k S₁ ++ replicate (length S₁ - k) 0
            → W₂ ≡ take k W₁ ++ replicate (length W₁ - k) (pos 0) → ReadAs file F S W r F₂ S₂ W₂
        finished x y z =
            record {
              answers = rw (← e) (answers_of F₁ S₁ W₁ r a b c);
              firsts = x ∙ rw (q, ← e, ← l_f) (as_padded 0 (edge_count r) F₁ _ a (firsts_all F₁ S₁ W₁ r a b c));
              seconds = y ∙ rw (q, ← e, ← l_s) (as_padded 0 (edge_count r) S₁ _ b (seconds_all F₁ S₁ W₁ r a b c));
              weights = z ∙ rw (q, ← e, ← l_w) (as_padded (pos 0) (edge_count r) W₁ _ c (weights_all F₁ S₁ W₁ r a b c));
            }
