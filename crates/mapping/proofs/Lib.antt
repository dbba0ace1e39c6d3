pub mod Deciding
pub mod Granted
pub mod Lists
pub mod Once
pub mod Places
pub mod Sound
pub mod Throughout
