pub mod Named
pub mod Spans
pub mod Laws
