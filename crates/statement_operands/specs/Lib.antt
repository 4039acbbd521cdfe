pub mod Matrices
pub mod OptionForms
