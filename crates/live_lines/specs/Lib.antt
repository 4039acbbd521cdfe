pub mod Dealing
pub mod LiveLines
pub mod Reading
