pub mod Ledger
pub mod OneHandler
pub mod Spare
