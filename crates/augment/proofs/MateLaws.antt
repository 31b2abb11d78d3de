-- The test that each mate names back, one law for each way through the code's test of a node.
use Rattle.std.proofs.Common.{◌≡◌, ◌≢◌, ◌*◌, ℕ, zero, suc, List, [], ◌∷◌, Bool, true, false, eqb, ltb, refl, arith, sym}
use borrow.Author.Tests.{eq-eqb, ne_eqb, ltb-true, ltb-false}
use Rattle.laws.specs.Run.{ok, fault, and_then, must, at}
use Rattle.laws.proofs.Runs.{not_ok, ok_inj}
use Rattle.laws.proofs.Windows.{at_value}
use Rattle.matching.specs.Certificate.{mate_of}
use Rattle.matching.specs.Graph.{Graph, edge_count, missing, is_missing, beside, node_at}
use Rattle.matching.specs.Tests.{mate_test}
use Rattle.steps.specs.Ends.{endpoint}
use Rattle.numbers.proofs.EdgeLaws.{beside_in}

-- ---- the mate of a node

pub mate_there : (mates : List ℕ) (v p : ℕ) → at mates v ≡ ok p → mate_of mates v ≡ p
unfolding mate_of
mate_there mates v p e = sym (at_value mates v missing e)

pub mate_none : (mates : List ℕ) (v : ℕ) → at mates v ≡ fault → mate_of mates v ≡ missing
unfolding mate_of at
mate_none [] v e = refl
mate_none (x ∷ xs) zero e = not_ok (sym e)
mate_none (x ∷ xs) (suc v) e = mate_none xs v e

pub ruleset told = (mate_there, mate_none)

-- ---- the test of a node

end_in : (G : Graph) (p x : ℕ) → endpoint G p ≡ ok x → (ltb p (2 * edge_count G) ≡ true) × (node_at G p ≡ x)
unfolding endpoint
end_in G p x e = go (ltb p (2 * edge_count G)) refl e
  where
    go : (t : Bool) → ltb p (2 * edge_count G) ≡ t → and_then (must t) (λ _. ok (node_at G p)) ≡ ok x
        → (ltb p (2 * edge_count G) ≡ true) × (node_at G p ≡ x)
    go true q r = (q, ok_inj r)
    go false q r = not_ok r

end_out : (G : Graph) (p : ℕ) → endpoint G p ≡ fault → ltb p (2 * edge_count G) ≡ false
unfolding endpoint
end_out G p e = go (ltb p (2 * edge_count G)) refl e
  where
    go : (t : Bool) → ltb p (2 * edge_count G) ≡ t → and_then (must t) (λ _. ok (node_at G p)) ≡ fault → ltb p (2 * edge_count G) ≡ false
    go true q r = not_ok (sym r)
    go false q r = q

module _ (G : Graph) (mates : List ℕ) (v m : ℕ) (h : m ≡ mate_of mates v) where
  pub test_missing : is_missing m ≡ true → mate_test G mates v ≡ true
  unfolding mate_test
  test_missing e = rw (← h, e)

  module _ (on : is_missing m ≡ false) where
    pub test_lost : endpoint G m ≡ fault → mate_test G mates v ≡ false
    unfolding mate_test
    test_lost e = rw (← h, on, end_out G m e)

    module _ (b : ℕ) (f : endpoint G m ≡ ok b) where
      pub test_half : endpoint G (beside m) ≡ fault → mate_test G mates v ≡ false
      test_half e =
          let less = ltb-true m (2 * edge_count G) (end_in G m b f).0 in
          let more = ltb-false (beside m) (2 * edge_count G) (end_out G (beside m) e) in
          let no_way : ⊥ = omega (arith, beside_in m (edge_count G) less, more) in absurd no_way

      module _ (a : ℕ) (g : endpoint G (beside m) ≡ ok a) where
        pub test_other : a ≢ v → mate_test G mates v ≡ false
        unfolding mate_test
        test_other d = rw (← h, on, (end_in G m b f).0, (end_in G _ a g).1, ne_eqb a v d)

        pub test_back : a ≡ v → mate_test G mates v ≡ eqb (mate_of mates b) (beside m)
        unfolding mate_test
        test_back s = rw (← h, on, (end_in G m b f).0, (end_in G _ a g).1, eq-eqb a v s, (end_in G m b f).1)

pub ruleset tests = (test_missing, test_lost, test_half, test_other, test_back)
