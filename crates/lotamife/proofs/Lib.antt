-- The two calls allow one result; and the plan call's number 0 is DONE.
pub mod Single
pub mod Zero
