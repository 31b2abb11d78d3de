-- What the answers of an expansion's routines stand for, and parts of the definition.
pub mod Parts
pub mod Told
