-- Laws of lists, integers, runs and pools: nothing here knows of a graph.
pub mod Integers
pub mod Lists
pub mod Decides
pub mod Runs
pub mod Loops
pub mod Windows
pub mod Rows
pub mod Kept
pub mod Times
pub mod Keeping
pub mod Flips
pub mod Ranges
