-- What slacks and tests stand for, and the table of neighbours.
pub mod Neighbours
pub mod Views
