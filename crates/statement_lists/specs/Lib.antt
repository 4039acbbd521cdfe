pub mod Following
pub mod Items
pub mod ListForms
pub mod Usings
