pub mod Ranges
pub mod Mapping
pub mod Question
pub mod Nested
