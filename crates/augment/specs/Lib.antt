-- What the answers of these routines stand for.
pub mod Trails
pub mod Turns
