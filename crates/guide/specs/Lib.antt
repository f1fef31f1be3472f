pub mod Trees
pub mod Layout
