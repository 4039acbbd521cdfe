pub mod ItemSteps
pub mod Parts
pub mod RangeSteps
pub mod Steps
pub mod TargetSteps
