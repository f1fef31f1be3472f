pub mod Ranks
pub mod Bare
pub mod Monitored
