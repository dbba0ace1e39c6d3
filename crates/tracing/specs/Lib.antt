pub mod Traced
pub mod Laws
