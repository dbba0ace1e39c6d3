pub mod Statuses
pub mod Outcomes
