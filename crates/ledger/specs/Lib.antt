pub mod Places
pub mod Room
pub mod Ledger
pub mod Only
pub mod OneHandler
