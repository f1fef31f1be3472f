pub mod Fitting
pub mod Large
pub mod Numbers
pub mod Sizes
