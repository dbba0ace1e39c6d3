pub mod Standing
pub mod Cases
