-- Laws of runs: what comes after, and loops one pass at a time.
-- A loop's laws are in the form of an invariant: what is left of the loop, from here, is the whole.
use mathlib.Core.Path.{◌≡◌, refl, sym, ap, ◌∙◌}
use mathlib.Core.Bool.{Bool, true, false}
use mathlib.Core.List.{List}
use Prim.Native.Nat.{ℕ, zero, suc, ◌+◌, ◌-◌, ◌≤◌, ◌<◌}
use native.Mathlib.Nat.{not-suc-le-zero}
use native.Mathlib.Numerals.{add-one, sub-one}
use native.Mathlib.Omega.{arith}
use lib.ListN.{length, get_or, drop, drop_of_length-le}
use lib.Seq.{drop-cons}
use Rattle.laws.specs.Run.{Run, ok, fault, and_then, for_each, for_range, while}

-- ---- ok and fault

pub not_ok : {A : Type 0} {a : A} {B : Type 0} → fault ≡ ok a → B
not_ok {a = a} e = absurd (omega (arith, zero_one e))
  where
    zero_one : fault ≡ ok a → ◌≡◌ {A = ℕ} 0 1
    zero_one e = cc

pub ok_inj : {A : Type 0} {a b : A} → ok a ≡ ok b → a ≡ b
ok_inj e = cc

-- what a callee says of its answer r through a view f, where r is known to be a
pub told : {A B : Type 0} (f : A → B) {r a : A} {x : B} → f r ≡ x → r ≡ a → x ≡ f a
told f e h = sym e ∙ ap f h

-- ---- what comes after

module _ {A B : Type 0} where
  pub then_assoc : {C : Type 0} (m : Run A) (f : A → Run B) (g : B → Run C) → and_then (and_then m f) g ≡ and_then m (λ a. and_then (f a) g)
  then_assoc (ok a) f g = refl
  then_assoc fault f g = refl

  pub then_same : (m : Run A) (f g : A → Run B) → ((a : A) → f a ≡ g a) → and_then m f ≡ and_then m g
  then_same (ok a) f g h = h a
  then_same fault f g h = refl

  pub then_fault : (m : Run A) (f : A → Run B) → ((a : A) → f a ≡ fault) → and_then m f ≡ fault
  then_fault (ok a) f h = h a
  then_fault fault f h = refl

-- ---- while

module _ {S : Type 0} (test : S → Run Bool) (body : S → Run S) where
  -- the test fails
  pub while_stop : (m : ℕ) (s : S) → test s ≡ ok false → while test body m s ≡ ok s
  while_stop zero s h = rw h
  while_stop (suc m) s h = rw h

  -- the test faults
  pub while_torn : (m : ℕ) (s : S) → test s ≡ fault → while test body m s ≡ fault
  while_torn zero s h = rw h
  while_torn (suc m) s h = rw h

  -- the test passes and no move is left
  pub while_spent : (m : ℕ) (s : S) → m ≡ 0 → test s ≡ ok true → while test body m s ≡ fault
  while_spent m s e h = rw (e, h)

  -- a pass that faults, whatever is left
  pub while_broken : (m : ℕ) (s : S) → test s ≡ ok true → body s ≡ fault → while test body m s ≡ fault
  while_broken zero s h e = rw h
  while_broken (suc m) s h e = rw (h, e)

  -- a pass
  pub while_pass : (m : ℕ) (s t : S) → 0 < m → test s ≡ ok true → body s ≡ ok t → while test body m s ≡ while test body (m - 1) t
  while_pass zero s t m>0 h e = absurd (not-suc-le-zero m>0)
  while_pass (suc m) s t m>0 h e = rw (h, e, sub-one)

-- ---- for i in from .. from + count, after a run that may have faulted

module _ {S : Type 0} (f : ℕ → S → Run S) where
  for_range_pass : (i c : ℕ) (r : Run S) → 0 < c → and_then r (for_range f i c) ≡ and_then (and_then r (f i)) (for_range f (i + 1) (c - 1))
  for_range_pass i zero r h = absurd (not-suc-le-zero h)
  for_range_pass i (suc c) (ok s) h = rw (add-one, sub-one)
  for_range_pass i (suc c) fault h = refl

  pub for_range_next : {whole : Run S} (i c : ℕ) (r r' : Run S) → 0 < c → r' ≡ and_then r (f i) → and_then r (for_range f i c) ≡ whole
      → and_then r' (for_range f (i + 1) (c - 1)) ≡ whole
  for_range_next i c r r' h e w = rw e (sym (for_range_pass i c r h) ∙ w)

  pub for_range_end : {whole : Run S} (i c : ℕ) (r : Run S) → c ≡ 0 → and_then r (for_range f i c) ≡ whole → r ≡ whole
  for_range_end i c (ok s) h w = rw h at w
  for_range_end i c fault h w = w

-- ---- for x in xs, where the code goes by places: what is left is the list from place i on

module _ {A S : Type 0} (f : A → S → Run S) where
  pub for_each_next : {whole : Run S} (xs : List A) (d : A) (i : ℕ) (r r' : Run S) → i < length xs → r' ≡ and_then r (f (get_or xs i d))
      → and_then r (for_each f (drop i xs)) ≡ whole → and_then r' (for_each f (drop (i + 1) xs)) ≡ whole
  for_each_next xs d i (ok s) r' h e w = rw (e, add-one) (rw (drop-cons xs i d h) at w)
  for_each_next xs d i fault r' h e w = rw e w

  pub for_each_end : {whole : Run S} (xs : List A) (i : ℕ) (r : Run S) → length xs ≤ i → and_then r (for_each f (drop i xs)) ≡ whole → r ≡ whole
  for_each_end xs i (ok s) h w = rw (drop_of_length-le xs h) at w
  for_each_end xs i fault h w = w
