-- The check on three lists of edges; what the code's tables and answers stand for.
pub mod Lists
pub mod Chains
pub mod Groups
pub mod View
pub mod Trial
