pub mod Keys
pub mod LawProofs
pub mod Waiting
