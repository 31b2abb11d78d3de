-- The laws of the paths, the ring, the links and the children of a new group.
pub mod AddLaws
pub mod ChildLaws
pub mod LinkLaws
pub mod PathLaws
pub mod Positions
pub mod TraceLaws
pub mod RepeatLaws
