-- The laws of edge entries laid out as three lists, and the theorems of the two calls on them.
pub mod Laid
pub mod Told
pub mod CallLaws
pub mod Optimal
