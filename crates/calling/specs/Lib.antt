pub mod Calling
pub mod Laws
