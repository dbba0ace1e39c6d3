pub mod Statements
pub mod Written
pub mod Judged
pub mod Asked
pub mod Trips
pub mod Theorems
