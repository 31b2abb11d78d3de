-- Worked files, and the laws that the proofs share.
pub mod Worked
pub mod Numbers
pub mod Edges
pub mod Judged
pub mod Taken
pub mod Passed
pub mod Finished
pub mod Single
