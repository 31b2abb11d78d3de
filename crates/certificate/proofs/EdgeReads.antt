-- What the code reads of the edges is what the definition reads.
use Rattle.std.proofs.Common.{◌≡◌, ◌<◌, ℕ, ℤ, pos, List, length, get_or}
use Rattle.matching.specs.Graph.{missing, first_of, second_of, weight_of}
use Rattle.matching.specs.Certificate.{mate_of}
use Rattle.laws.proofs.Loops.{get_d_any}
use Rattle.certificate.specs.Lists.{Known, Weighed, lent}
use Rattle.certificate.proofs.ListLaws.{slices}
use Rattle.certificate.proofs.IntakeLaws.{edges_length}

module _ (n : ℕ) (first second : List ℕ) (weight : List ℤ) (e : ℕ) (k : Known n first second) (w : Weighed first weight) where
  pub first_read : first_of (lent n first second weight) e ≡ get_or first e 0
  first_read = (slices n first second weight k w e).1

  pub second_read : second_of (lent n first second weight) e ≡ get_or second e 0
  second_read = (slices n first second weight k w e).2

  pub weight_read : weight_of (lent n first second weight) e ≡ get_or weight e (pos 0)
  weight_read = (slices n first second weight k w e).3

pub first_below : (n : ℕ) (first second : List ℕ) (e : ℕ) → Known n first second → e < length first → get_or first e 0 < n
first_below n first second e k h = k.first_node e h

pub second_below : (n : ℕ) (first second : List ℕ) (e : ℕ) → Known n first second → e < length first → get_or second e 0 < n
second_below n first second e k h = k.second_node e h

pub ruleset reads = (edges_length, first_read, second_read, weight_read, first_below, second_below)

pub mate_read : (mates : List ℕ) (v : ℕ) → v < length mates → mate_of mates v ≡ get_or mates v 0
unfolding mate_of
mate_read mates v h = get_d_any mates v missing 0 h
