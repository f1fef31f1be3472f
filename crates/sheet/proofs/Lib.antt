pub mod Longest
pub mod Keeps
pub mod Allows
pub mod Means
pub mod Replays
pub mod Ascends
