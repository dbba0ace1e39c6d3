pub mod Entries
pub mod Touched
pub mod Tests
