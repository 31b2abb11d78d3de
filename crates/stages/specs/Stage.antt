-- The progress of the search within a stage. Definitions only.
use Rattle.steps.specs.State.{Progress, searching}

-- the stage is the same, and is searched
abbrev pub searching_at : Progress → Progress
searching_at at = record { stage = at.stage; phase = searching }
