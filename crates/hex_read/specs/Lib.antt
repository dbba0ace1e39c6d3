pub mod Marks
pub mod Packed
pub mod Many
