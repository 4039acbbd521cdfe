pub mod BatchLemmas
pub mod Joins
pub mod Paced
pub mod PortLemmas
pub mod Seated
