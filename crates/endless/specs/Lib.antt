pub mod Judgments
pub mod Drawings
