pub mod Hops
pub mod OneSearch
pub mod Tables
pub mod Innermost
pub mod Witnesses
