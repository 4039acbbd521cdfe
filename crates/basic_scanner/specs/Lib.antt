pub mod Lexemes
pub mod Scan
pub mod Tables
