-- From certificate to optimality, and the exactness of the verdict.
pub mod Packing
pub mod Pairs
pub mod Duality
pub mod Decided
pub mod Readings
