-- Words that the kit lacks: facts and sums over a list, integers, a computation that may fault, rows of a pool.
pub mod Lists
pub mod Integers
pub mod Run
pub mod Rows
pub mod Times
