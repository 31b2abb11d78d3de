-- What the lists of the search and the answers of its routines stand for.
pub mod Parts
pub mod Keeps
pub mod Views
pub mod Walks
pub mod Kids
pub mod Forgets
pub mod Pops
pub mod Fresh
pub mod Free
pub mod Outer
