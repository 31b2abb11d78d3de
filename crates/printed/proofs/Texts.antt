-- Text put into a buffer piece by piece; the decimal digits of a number, the last one apart.
use mathlib.Core.Path.{◌≡◌, refl, sym, ap, ◌∙◌}
use mathlib.Core.Bool.{Bool, true, false}
use mathlib.Core.List.{List, [], ◌∷◌, ◌++◌, append_assoc, append-nil}
use Prim.Native.Nat.{ℕ, zero, suc, ◌+◌, ◌-◌, ◌/◌, ◌%◌, ◌≤◌, ◌<◌}
use native.Mathlib.Omega.{arith}
use borrow.Author.Tests.{lt-ltb, le-ltb, ltb-false}
use lib.Dec.{ltb}
use lib.ListN.{length, take, drop, length-append, length-take, take-append-drop}
use lib.Seq.{drop-drop, take_all, take-append_seam, take-append-add, drop-append-add, drop-append_seam, length-take-le}
use Rattle.std.proofs.lemmas.List.{length-drop}
use Rattle.printed.specs.Text.{digit, digits, decimal}
use Rattle.printed.specs.Page.{Page, with_text}
use Rattle.printed.specs.View.{Put}

-- ---- pieces

-- a text cut, and more after it, cut again
pub cut_twice : (k : ℕ) (a y : List ℕ) → take k (take k a ++ y) ≡ take k (a ++ y)
cut_twice zero a y = refl
cut_twice (suc k) [] y = refl
cut_twice (suc k) (x ∷ a) y = ap {B = List ℕ} (λ t. x ∷ t) (cut_twice k a y)

module _ (buffer : List ℕ) (at : ℕ) where
  taken : at ≤ length buffer → length (take at buffer) ≡ at
  taken h = length-take-le at buffer h

  pub put_nothing : at ≤ length buffer → Put buffer at [] buffer at
  put_nothing h =
      let e : take (length buffer) (take at buffer ++ []) ≡ take at buffer =
      rw (append-nil (take at buffer)) (take_all (length buffer) (take at buffer) (omega (arith, taken h))) in
      record { holds = sym e; within = h; counts = rw e (sym (taken h)); rest = refl }

-- what stands further on, where two buffers agree from some place on
drop_later : (i j : ℕ) (a b : List ℕ) → i ≤ j → drop i a ≡ drop i b → drop j a ≡ drop j b
drop_later i j a b h e =
    let q : i + (j - i) ≡ j = omega arith in
    let f : drop (i + (j - i)) a ≡ drop (i + (j - i)) b = sym (drop-drop (j - i) i a) ∙ ap (drop (j - i)) e ∙ drop-drop (j - i) i b in
    rw q at f

-- one piece after another
pub put_then : {b₀ b₁ b₂ x y : List ℕ} {at e₁ e₂ : ℕ} → Put b₀ at x b₁ e₁ → length b₁ ≡ length b₀ → Put b₁ e₁ y b₂ e₂ → Put b₀ at (x ++ y) b₂ e₂
put_then {b₀} {b₁} {b₂} {x} {y} {at} {e₁} {e₂} p l q =
    let e : take (length b₁) (take e₁ b₁ ++ y) ≡ take (length b₀) (take at b₀ ++ (x ++ y)) =
    rw (l, p.holds, cut_twice (length b₀) (take at b₀ ++ x) y, append_assoc (take at b₀) x y) in
    let s : length (take e₁ b₁ ++ y) ≡ e₁ + length y = length-append (take e₁ b₁) y ∙ ap (λ (k : ℕ). k + length y) (length-take-le e₁ b₁ p.within) in
    let g : e₁ ≤ e₂ = omega (arith, q.counts, length-take (length b₁) (take e₁ b₁ ++ y), p.within) in
    record { holds = q.holds ∙ e; within = q.within; counts = q.counts ∙ ap length e; rest = q.rest ∙ drop_later e₁ e₂ b₁ b₀ g p.rest }

-- there is one buffer and one count that a text can be put with
pub put_one : {b x a a' : List ℕ} {at e e' : ℕ} → Put b at x a e → Put b at x a' e' → (a ≡ a') × (e ≡ e')
put_one {b} {x} {a} {a'} {at} {e} {e'} p q =
    let k : e ≡ e' = p.counts ∙ sym q.counts in
    let f : take e a ≡ take e' a' = p.holds ∙ sym q.holds in
    let g : drop e a ≡ drop e' a' = p.rest ∙ ap (λ (i : ℕ). drop i b) k ∙ sym q.rest in
    let h : take e a ++ drop e a ≡ take e' a' ++ drop e' a' = rw (f, g) in
    (sym (take-append-drop e a) ∙ h ∙ take-append-drop e' a', k)

-- what a text put after the bytes in use does to the buffer
module _ (text : List ℕ) (p : Page) (h : p.len ≤ length p.bytes) where
  front : length (take p.len p.bytes) ≡ p.len
  front = length-take-le p.len p.bytes h

  abbrev fits : List ℕ
  fits = take (length p.bytes - p.len) text

  abbrev after : List ℕ
  after = drop (p.len + length fits) p.bytes

  few : length fits ≤ length p.bytes - p.len
  few = omega (arith, length-take (length p.bytes - p.len) text)

  whole : take (length p.bytes) (take p.len p.bytes ++ text) ≡ take p.len p.bytes ++ fits
  whole =
      let e : length (take p.len p.bytes) + (length p.bytes - p.len) ≡ length p.bytes = omega (arith, front) in
      rw e at (take-append-add (take p.len p.bytes) text (length p.bytes - p.len))

  used : take (p.len + length fits) (take p.len p.bytes ++ (fits ++ after)) ≡ take p.len p.bytes ++ fits
  used =
      rw front at (take-append-add (take p.len p.bytes) (fits ++ after) (length fits))
      ∙ ap (λ (t : List ℕ). take p.len p.bytes ++ t) (take-append_seam fits after)

  unused : drop (p.len + length fits) (take p.len p.bytes ++ (fits ++ after)) ≡ after
  unused = rw front at (drop-append-add (take p.len p.bytes) (fits ++ after) (length fits)) ∙ drop-append_seam fits after

  pub text_length : length (with_text text p).bytes ≡ length p.bytes
  unfolding with_text
  text_length =
      omega (arith, few, front, length-append (take p.len p.bytes) (fits ++ after), length-append fits after, length-drop (p.len + length fits) p.bytes)

  pub text_puts : Put p.bytes p.len text (with_text text p).bytes (with_text text p).len
  unfolding with_text
  text_puts =
      record {
        holds = used ∙ sym whole;
        within = omega (arith, few, text_length);
        counts = sym (ap length whole ∙ length-append (take p.len p.bytes) fits ∙ ap (λ (k : ℕ). k + length fits) front);
        rest = unused;
      }

pub with_both : (x y : List ℕ) (p : Page) → p.len ≤ length p.bytes → with_text y (with_text x p) ≡ with_text (x ++ y) p
with_both x y p h =
    let one = text_puts x p h in
    let two = text_puts y (with_text x p) one.within in
    let e = put_one (put_then one (text_length x p h) two) (text_puts (x ++ y) p h) in
    λ i. record { bytes = e.0 i; len = e.1 i }

-- ---- digits

-- any number of digits that is enough gives the same
digits_same : (k m x : ℕ) → x < k → x < m → digits k x ≡ digits m x
unfolding digits
digits_same zero m x h l = let no_way : ⊥ = omega arith in absurd no_way
digits_same (suc k) zero x h l = let no_way : ⊥ = omega arith in absurd no_way
digits_same (suc k) (suc m) x h l = go (ltb x 10) refl (λ (g : 10 ≤ x). digits_same k m (x / 10) (omega arith) (omega arith))
  where
    go : (t : Bool) → ltb x 10 ≡ t → (10 ≤ x → digits k (x / 10) ≡ digits m (x / 10)) → digits (suc k) x ≡ digits (suc m) x
    go true e f = rw e
    go false e f = rw (e, f (ltb-false x 10 e))

pub decimal_one : (x : ℕ) → x < 10 → digit x ∷ [] ≡ decimal x
unfolding decimal digits
decimal_one x h = rw (lt-ltb x 10 h)

pub decimal_more : (x : ℕ) → 10 ≤ x → decimal (x / 10) ++ (digit (x % 10) ∷ []) ≡ decimal x
unfolding decimal digits
decimal_more x h = rw (le-ltb x 10 h, digits_same (suc (x / 10)) x (x / 10) (omega arith) (omega arith))
