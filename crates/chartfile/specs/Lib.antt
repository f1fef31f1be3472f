pub mod Records
pub mod Files
pub mod Steps
pub mod Stored
