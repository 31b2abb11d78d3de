-- What the lists of a list of entries say is what the entries say: a caller of `split` passes the lists on to a function whose contract
-- speaks of their fronts, and has its own contract, which speaks of the fields of the entries.
--     count_is     the lists' count is the number of entries
--     fronts       whatever is said of the fronts of the three lists is said of the fields of the entries, where nothing that is said of
--                  over 2048 entries depends on the lists
-- Assumes nothing.
use mathlib.Core.Path.{◌≡◌, refl, sym, ap, subst}
use Prim.Native.Nat.{ℕ, ◌<◌, ◌≤◌}
use mathlib.Core.Bool.{Bool, true, false, not}
use mathlib.Core.List.{List, map}
use lib.Dec.{T, leb, leb→le, nleb→lt}
use lib.IntN.{ℤ, pos}
use lib.ListN.{length, take, replicate, length-replicate}
use Rattle.entries.specs.Entries.{laid, first_of, second_of, weight_of, chosen, held, lists_at, lists_of}
use Rattle.entries.specs.declared.EdgeEntry.{EdgeEntry}
use Rattle.entries.specs.declared.EdgeLists.{EdgeLists}
use Rattle.entries.proofs.Laid.{laid_front}

pub count_is : (es : List EdgeEntry) (d : EdgeLists) → d ≡ lists_of es → length es ≡ d.count
unfolding lists_of lists_at
count_is es d e = ap (λ (l : EdgeLists). l.count) (sym e)

-- the front of a list that is laid by the count's own test
front : {B : Type 0} (g : EdgeEntry → B) (es : List EdgeEntry) (zs : List B) → length zs ≡ 2048 → T (leb (length es) 2048)
    → take (length es) (laid g (length es) es zs) ≡ map g es
front g es zs k t = laid_front g es zs (subst (λ (m : ℕ). length es ≤ m) (sym k) (leb→le (length es) 2048 t))

module _ {C : Type 0} (F : List ℕ → List ℕ → List ℤ → C) where
  pub fronts : (es : List EdgeEntry) (d : EdgeLists) → d ≡ lists_of es
      → (2048 < length es → (fs ss : List ℕ) (ws : List ℤ) → F fs ss ws ≡ F (map first_of es) (map second_of es) (map weight_of es))
      → F (take d.count d.first) (take d.count d.second) (take d.count d.weight) ≡ F (map first_of es) (map second_of es) (map weight_of es)
  unfolding lists_of lists_at held chosen
  fronts es d e over =
      subst (λ (l : EdgeLists). F (take l.count l.first) (take l.count l.second) (take l.count l.weight)
      ≡ F (map first_of es) (map second_of es) (map weight_of es)) (sym e) (by_test (leb (length es) 2048) refl)
    where
      zs : List ℕ
      zs = replicate 2048 0

      ws : List ℤ
      ws = replicate 2048 (pos 0)

      n : ℕ
      n = length es

      by_test : (t : Bool) → leb n 2048 ≡ t
          → F (take n (laid first_of (chosen t n) es zs)) (take n (laid second_of (chosen t n) es zs)) (take n (laid weight_of (chosen t n) es ws))
          ≡ F (map first_of es) (map second_of es) (map weight_of es)
      by_test true h =
          λ i. F (front first_of es zs (length-replicate {A = ℕ} 2048 0) (subst T (sym h) tt) i)
          (front second_of es zs (length-replicate {A = ℕ} 2048 0) (subst T (sym h) tt) i)
          (front weight_of es ws (length-replicate {A = ℤ} 2048 (pos 0)) (subst T (sym h) tt) i)
      by_test false h = over (nleb→lt n 2048 (subst (λ (t : Bool). T (not t)) (sym h) tt)) _ _ _
