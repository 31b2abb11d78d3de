-- The laws of a site file's answer, and document 01's example.
pub mod Limits
pub mod ReadLaws
pub mod DoneLaws
pub mod Example
pub mod Single
