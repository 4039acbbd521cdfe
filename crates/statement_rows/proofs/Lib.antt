pub mod RowSteps
pub mod SlotSteps
