-- Lines of fields put one after another.
use Rattle.std.proofs.Common.{◌≡◌, refl, ap, ◌∙◌, List, [], ◌∷◌, ◌++◌, append_assoc, append-nil}
use Rattle.std.proofs.Common.{ℕ, suc, ◌+◌, ◌%◌, ◌≤◌, ◌<◌, ◌^◌, length, ℤ, pos, negsuc, nat_abs, arith}
use Rattle.std.specs.Fmt.{decimal as decimal_std}
use Rattle.std.specs.Fmt.{signed_decimal as signed_std}
use Rattle.std.proofs.lemmas.Fmt.{decimal_by_steps}
use Rattle.printed.specs.Page.{Page, with_text}
use Rattle.laws.specs.Lists.{range}
use Rattle.matching.specs.Graph.{Graph}
use Rattle.printed.specs.Answer.{Pair, name_done, printed_other, pair_at, pairs_at, pair_line, pair_lines, printed_done}
use Rattle.printed.specs.Found.{weights_total}
use Rattle.printed.proofs.PairLaws.{one_line, no_line, lines_more}
use Rattle.printed.specs.Text.{digit, decimal, signed_decimal, line}
use Rattle.printed.proofs.Texts.{put_nothing, put_one, with_both, text_puts, decimal_one, decimal_more}

-- the library's decimal is the definition's
pub decimal_same : (x : ℕ) → x < 2 ^ 64 → decimal_std x ≡ decimal x
decimal_same =
    decimal_by_steps (λ m ds. ds ≡ decimal m) (λ m l. decimal_one m l)
    (λ m ds l e. ap (λ (t : List ℕ). t ++ (digit (m % 10) ∷ [])) e ∙ decimal_more m l)

pub signed_same : (w : ℤ) → nat_abs w < 2 ^ 64 → signed_std w ≡ signed_decimal w
signed_same (pos n) h = decimal_same n h
signed_same (negsuc n) h = ap (λ (t : List ℕ). 45 ∷ t) (decimal_same (suc n) (omega (arith, h)))

fields : (a b c : List ℕ) → ((((a ++ (32 ∷ [])) ++ b) ++ (32 ∷ [])) ++ c) ++ (10 ∷ []) ≡ a ++ (32 ∷ (b ++ (32 ∷ (c ++ (10 ∷ [])))))
fields a b c = simp append_assoc

heading : (a b d : List ℕ) → ((((((68 ∷ 79 ∷ 78 ∷ 69 ∷ 32 ∷ []) ++ a) ++ (32 ∷ [])) ++ b) ++ (32 ∷ [])) ++ d) ++ (10 ∷ []) ≡ line name_done (a ∷ b ∷ d ∷ [])
heading a b d = simp append_assoc

module _ (p : Page) (l : p.len ≤ length p.bytes) where
  two : (x y : List ℕ) → with_text y (with_text x p) ≡ with_text (x ++ y) p
  two x y = with_both x y p l

  pub other_laid : (name : List ℕ) (place : ℕ) → place < 2 ^ 64
      → with_text (10 ∷ []) (with_text (decimal_std place) (with_text (32 ∷ []) (with_text name p))) ≡ with_text (printed_other name place) p
  unfolding printed_other
  other_laid name place h = rw (two, two, two, decimal_same place h, append_assoc, append_assoc) refl

  pub pair_laid : (lower higher : ℕ) (w : ℤ) → lower < 2 ^ 64 → higher < 2 ^ 64 → nat_abs w < 2 ^ 64
      → with_text (10 ∷ []) (with_text (signed_std w)
      (with_text (32 ∷ []) (with_text (decimal_std higher) (with_text (32 ∷ []) (with_text (decimal_std lower) p)))))
      ≡ with_text (pair_line (record { lower = lower; higher = higher; weight = w })) p
  unfolding pair_line
  pair_laid lower higher w a b c =
      rw (two, two, two, two, two, decimal_same lower a, decimal_same higher b, signed_same w c)
      (ap (λ (t : List ℕ). with_text t p) (fields (decimal lower) (decimal higher) (signed_decimal w)))

  pub head_laid : (count steps : ℕ) (total : ℤ) → count < 2 ^ 64 → steps < 2 ^ 64 → nat_abs total < 2 ^ 64
      → with_text (10 ∷ []) (with_text (decimal_std steps) (with_text (32 ∷ []) (with_text (signed_std total)
      (with_text (32 ∷ []) (with_text (decimal_std count) (with_text (68 ∷ 79 ∷ 78 ∷ 69 ∷ 32 ∷ []) p))))))
      ≡ with_text (line name_done (decimal count ∷ signed_decimal total ∷ decimal steps ∷ [])) p
  head_laid count steps total a b c =
      rw (two, two, two, two, two, two, decimal_same count a, decimal_same steps b, signed_same total c)
      (ap (λ (t : List ℕ). with_text t p) (heading (decimal count) (signed_decimal total) (decimal steps)))

  pub done_laid : (ps : List Pair) (count steps : ℕ) (total : ℤ) → count ≡ length ps → total ≡ weights_total ps
      → with_text (pair_lines ps) (with_text (line name_done (decimal count ∷ signed_decimal total ∷ decimal steps ∷ [])) p)
      ≡ with_text (printed_done ps steps) p
  unfolding printed_done
  done_laid ps count steps total e f = rw (e, f) (two _ _)

  pub lines_none : (G : Graph) (mates : List ℕ) → with_text (pair_lines (pairs_at G mates (range 0 0))) p ≡ p
  unfolding pair_lines pairs_at range
  lines_none G mates =
      let e = put_one (text_puts [] p l) (put_nothing p.bytes p.len l) in
      λ i. record { bytes = e.0 i; len = e.1 i }

  module _ (G : Graph) (mates : List ℕ) (v : ℕ) where
    pub lines_one : (x : Pair) → x ∷ [] ≡ pair_at G mates v
        → with_text (pair_line x) (with_text (pair_lines (pairs_at G mates (range 0 v))) p) ≡ with_text (pair_lines (pairs_at G mates (range 0 (v + 1)))) p
    lines_one x e = two _ _ ∙ ap (λ (t : List ℕ). with_text t p) (rw (lines_more G mates v, ← e, one_line x) refl)

    pub lines_skip : [] ≡ pair_at G mates v
        → with_text (pair_lines (pairs_at G mates (range 0 (v + 1)))) p ≡ with_text (pair_lines (pairs_at G mates (range 0 v))) p
    lines_skip e = ap (λ (t : List ℕ). with_text t p) (rw (lines_more G mates v, ← e, ← no_line, append-nil) refl)

pub ruleset lines = (other_laid, pair_laid, head_laid, done_laid, lines_none, lines_one, lines_skip)
