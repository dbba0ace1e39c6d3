pub mod Explained
pub mod Laws
