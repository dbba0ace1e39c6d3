pub mod Identifiers
