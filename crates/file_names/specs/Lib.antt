pub mod Names
pub mod SpecFronts
pub mod Laws
