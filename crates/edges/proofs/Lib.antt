-- The laws of lent edges, their largest weight, and the table of neighbours.
pub mod Lent
pub mod Top
pub mod Counts
pub mod Placing
pub mod Table
