pub mod Cells
pub mod Flags
pub mod Products
pub mod Settled
