-- Edge entries, and the two calls on them.
pub mod Entries
pub mod Calls
