-- From a site file's bytes to the printed answer.
pub mod Answered
pub mod View
