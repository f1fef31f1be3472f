pub mod Fronts
pub mod Progress
pub mod OneWay
pub mod Storing
pub mod Refused
