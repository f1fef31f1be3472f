pub mod OnePile
pub mod Witnesses
