pub mod Search
pub mod Count
pub mod Store
pub mod Laid
