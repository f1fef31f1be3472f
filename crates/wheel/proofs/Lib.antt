pub mod Bounds
pub mod Rims
pub mod Sizes
