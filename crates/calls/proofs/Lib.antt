pub mod Laws
pub mod Right
