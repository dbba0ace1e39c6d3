pub mod Passing
pub mod Tree
pub mod Exactly
pub mod Once
pub mod First
pub mod Statements
pub mod Reserved
pub mod Only
