-- The laws of the check, condition by condition, and its theorems.
pub mod SignedLaws
pub mod Passes
pub mod EdgeReads
pub mod ListLaws
pub mod IntakeLaws
pub mod ChainLaws
pub mod TableLaws
pub mod RowLaws
pub mod SlackLaws
pub mod SharedLaws
pub mod GroupLaws
pub mod JudgeLaws
pub mod Yes
pub mod Single
