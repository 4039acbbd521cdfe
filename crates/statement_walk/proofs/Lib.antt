pub mod Showing
pub mod PartLaws
