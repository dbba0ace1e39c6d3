pub mod Bytes
pub mod Digits
pub mod Put
pub mod Downward
