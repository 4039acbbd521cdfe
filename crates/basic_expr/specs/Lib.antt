pub mod Failures
pub mod Parsing
pub mod ParsedSymbols
pub mod Precedences
pub mod Views
