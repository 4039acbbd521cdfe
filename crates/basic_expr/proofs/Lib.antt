pub mod Compose
pub mod Places
pub mod Rows
pub mod Steps
mod WordLemmas
pub mod WordTests
