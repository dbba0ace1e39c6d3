pub mod Answers
pub mod Reached
pub mod Outcome
pub mod Pass
pub mod Rooms
pub mod Alike
pub mod Scans
pub mod Free
