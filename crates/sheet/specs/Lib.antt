pub mod Sheet
pub mod Changes
pub mod Edits
pub mod Replay
pub mod Least
pub mod Laws
