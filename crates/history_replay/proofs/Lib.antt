pub mod Positions
pub mod Indexes
pub mod ListSteps
pub mod Legality
pub mod Runs
mod DisputesExamples
