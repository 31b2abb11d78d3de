-- The printed answer as bytes.
pub mod Text
pub mod Page
pub mod Answer
pub mod Found
pub mod View
pub mod Written
