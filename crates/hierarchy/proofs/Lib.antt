pub mod Beyond
pub mod Told
