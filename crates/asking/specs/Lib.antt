pub mod Names
pub mod Forms
pub mod Cases
