pub mod AssignmentSteps
pub mod ChainSteps
pub mod ListSteps
pub mod UsingSteps
