-- What `pair` ends with, and what it has read.
pub mod Status
pub mod Input
