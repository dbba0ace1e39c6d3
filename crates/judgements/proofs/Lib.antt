pub mod Alike
pub mod Asked
pub mod Decided
pub mod Granted
pub mod Grounds
pub mod Hint
pub mod Quiet
pub mod Refused
