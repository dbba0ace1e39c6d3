pub mod Transfer
pub mod Granted
