pub mod Lawful
pub mod Piles
pub mod Spreads
