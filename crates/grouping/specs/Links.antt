-- The links kept so far as the code holds them: the groups led to, the edge to each, and for each group its place among them, or
-- missing. Definitions only.
use Rattle.std.specs.Prelude.{◌≡◌, List, [], ◌∷◌, ℕ, ◌*◌, ◌≤◌, ◌<◌, leb, ℤ, length, get_or, take}
use Rattle.laws.specs.Run.{Run, ok, ◌>>=◌, must, position}
use Rattle.matching.specs.Graph.{Graph}
use Rattle.steps.specs.Ends.{present}
use Rattle.steps.specs.Add.{Link, insert_link}

abbrev pub link : (j e : ℕ) → Link
link j e = record { toward = j; edge = e }

unfoldable pub paired : (towards edges : List ℕ) → List Link
paired (j ∷ js) (e ∷ es) = link j e ∷ paired js es
paired (j ∷ js) [] = []
paired [] es = []

-- links where there are so many nodes
pub record Linked : Type 0 where
  pub links : List Link
  pub nodes : ℕ

-- each group's place among the groups led to, or missing
pub record Seated (n : ℕ) (seat towards : List ℕ) : Type 0 where
  pub seats : (j : ℕ) → j < 2 * n → position j towards ≡ present (get_or seat j 0)

pub record LinksFit (n : ℕ) (edges towards seat : List ℕ) (len : ℕ) : Type 0 where
  pub small : n ≤ 512
  pub within : len ≤ n
  pub edges_room : length edges ≡ n
  pub towards_room : length towards ≡ n
  pub seat_room : length seat ≡ 2 * n
  pub seated : Seated n seat (take len towards)

-- an edge inserted, where there are no more links than nodes
unfoldable pub insert_fit : Graph → List ℤ → (j e : ℕ) → List Link → Run (List Link)
insert_fit G duals j e links = do
  links ← insert_link G duals j e links
  _ ← must (leb (length links) G.nodes)
  ok links
