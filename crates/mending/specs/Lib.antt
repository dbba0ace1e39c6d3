pub mod Mended
pub mod Laws
