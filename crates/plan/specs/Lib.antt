-- The plan call on three lists of edges.
pub mod View
pub mod Lists
pub mod Requests
pub mod Runs
