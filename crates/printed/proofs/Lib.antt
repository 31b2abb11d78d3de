-- The laws of text in a buffer and of a plan's pairs, and document 01's example printed.
pub mod Texts
pub mod Lines
pub mod Example
pub mod PairLaws
