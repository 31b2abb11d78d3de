-- The laws of the visits and of a run, and that what they leave stands.
pub mod VisitLaws
pub mod RunLaws
pub mod JoinLaws
pub mod StandLaws
