pub mod Plan
pub mod Weighing
