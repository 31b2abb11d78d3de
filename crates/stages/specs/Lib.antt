-- What the answers of these routines stand for.
pub mod Stage
pub mod Deltas
pub mod Look
