pub mod Cases
pub mod Charts
