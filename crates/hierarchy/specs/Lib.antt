pub mod Meaning
pub mod Answers
pub mod Flat
pub mod Runs
pub mod Refusals
