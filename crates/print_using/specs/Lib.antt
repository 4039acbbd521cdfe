pub mod Adding
pub mod Fields
pub mod FormatFronts
pub mod Formats
pub mod Laws
pub mod Using
pub mod Values
