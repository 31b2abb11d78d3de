-- The laws of numbered lists and pools.
pub mod PoolLaws
pub mod EdgeLaws
pub mod NearLaws
pub mod Stored
pub mod Members
