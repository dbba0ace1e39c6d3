pub mod Wanted
pub mod Cases
