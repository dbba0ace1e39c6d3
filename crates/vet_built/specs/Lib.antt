pub mod Entries
pub mod Ascending
pub mod Accepted
