pub mod Table
pub mod Seek
pub mod Found
pub mod Decider
