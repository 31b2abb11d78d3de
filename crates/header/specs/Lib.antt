-- The numbers of the C interface.
pub mod Numbers
