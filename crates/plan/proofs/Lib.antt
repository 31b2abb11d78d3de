-- The laws of the plan call, and its theorems.
pub mod EndLaws
pub mod PartLaws
pub mod SettleLaws
pub mod FillLaws
pub mod CallLaws
pub mod Optimal
pub mod Single
pub mod Passing
