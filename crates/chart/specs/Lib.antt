pub mod Layout
pub mod Charts
pub mod Lawful
