-- What the search by value stands for, and what its steps and its run answer. Definitions only.
use Rattle.std.specs.Prelude.{if◌then◌else◌, ◌≡◌, Bool, false, List, ℕ, ◌*◌, ◌<◌, ◌≤◌, eqb, length, Result, Ok, Err}
use Rattle.laws.specs.Run.{Run, ok, fault}
use Rattle.matching.specs.Graph.{Graph, missing, is_group}
use Rattle.steps.specs.State.{State, Progress, Phase, opening, searching, closing, ended}
use Rattle.steps.specs.Plan.{Ending, finished, spent, broken, is_ended}
use Rattle.steps.specs.Standing.{Standing, After}
use Rattle.numbers.specs.declared.faults.Fault.{Fault}
use Rattle.state.specs.Parts.{Parts, state_of, sized, size_of}
use Rattle.grouping.specs.Rooms.{RoomFits}
use Rattle.grouping.specs.declared.room.Room.{Room}
use Rattle.search.specs.declared.search.Phase.{Phase as PhaseCode}
use Rattle.search.specs.declared.search.Phase.TheVariants.{Opening, Searching, Closing, Ended}
use Rattle.search.specs.declared.running.Stopped.{Stopped}
use Rattle.search.specs.declared.running.Stopped.TheVariants.{Spent, Broken}

abbrev pub phase_of : PhaseCode → Phase
phase_of Opening = opening
phase_of Searching = searching
phase_of Closing = closing
phase_of Ended = ended

abbrev pub progress : (stage : ℕ) → Phase → Progress
progress stage phase = record { stage = stage; phase = phase }

-- the room to work in is for n nodes
pub record ScratchFits (n : ℕ) (marks : List ℕ) (nodes : ℕ) (room : Room) : Type 0 where
  pub marks_room : length marks ≡ 2 * n
  pub nodes_room : nodes ≡ 2 * n
  pub group_room : RoomFits n room

-- the lists of a search, how many nodes its room is for, and what is next
pub record Searched : Type 0 where
  pub lists : Parts
  pub scratch : ℕ
  pub at : Progress

abbrev pub searched : Searched → State
searched s = state_of s.lists s.at

-- the search is one of this graph, and a stage is left unless it has ended
pub record Ready (G : Graph) (s : Searched) : Type 0 where
  pub size : sized s.lists ≡ size_of G
  pub scratch : s.scratch ≡ G.nodes
  pub going : is_ended s.at.phase ≡ false → s.at.stage < G.nodes

-- n is from 1 to 32,767
abbrev pub Numbered : Graph → Type 0
Numbered G = (0 < G.nodes) × (2 * G.nodes ≤ missing)

-- the search is what so many completed steps leave of the fresh start, and what holds after each completed step holds of it
pub record Stands (G : Graph) (flag : Bool) (steps : ℕ) (s : Searched) : Type 0 where
  pub after : After is_group G flag steps (searched s)
  pub standing : Standing G (searched s)

-- the phase after a stage is closed, by how many are closed then
abbrev pub phase_after : (stage n : ℕ) → Phase
phase_after stage n = if eqb stage n then ended else opening

-- the run x answers the search that a step leaves
abbrev pub AnswersSearch : Run State → Result Searched Fault → Type 0
AnswersSearch x (Ok s) = x ≡ ok (searched s)
AnswersSearch x (Err e) = x ≡ fault

-- the run e ends as the answer says: a search and a count, or why not and the count
abbrev pub Ends : Ending → Result (Searched × ℕ) Stopped → Type 0
Ends e (Ok r) = e ≡ finished r.1 (searched r.0)
Ends e (Err (Spent k)) = e ≡ spent k
Ends e (Err (Broken k)) = e ≡ broken k
