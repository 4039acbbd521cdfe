pub mod Forms
pub mod ParsedForms
pub mod Sentences
