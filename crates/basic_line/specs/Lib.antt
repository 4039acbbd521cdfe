pub mod Parsing
pub mod Structure
