pub mod Writing
pub mod Text
pub mod Report
pub mod Refused
pub mod Judged
pub mod FileReports
