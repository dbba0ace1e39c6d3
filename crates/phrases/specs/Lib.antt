pub mod Sentence
pub mod Text
pub mod Cases
