pub mod Project
pub mod Lift
pub mod Phases
pub mod Nodes
pub mod Words
pub mod Piles
pub mod Depth
pub mod Witnesses
