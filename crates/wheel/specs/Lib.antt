pub mod Meaning
pub mod Shapes
pub mod Kinds
pub mod Lawful
pub mod Made
