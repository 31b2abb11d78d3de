-- The laws of a whole input.
pub mod InputLaws
