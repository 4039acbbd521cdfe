pub mod Pieces
pub mod Rests
pub mod Rows
pub mod Slots
