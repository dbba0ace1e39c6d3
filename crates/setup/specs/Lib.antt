pub mod Table
pub mod Statuses
pub mod Frames
pub mod Laws
pub mod Outcomes
