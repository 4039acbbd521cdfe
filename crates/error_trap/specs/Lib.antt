pub mod Laws
pub mod Trapping
