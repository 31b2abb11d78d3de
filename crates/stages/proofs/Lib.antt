-- Laws of these routines.
pub mod Looks
pub mod Amounts
