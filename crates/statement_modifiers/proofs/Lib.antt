pub mod ModifierSteps
