pub mod Ends
pub mod Memory
pub mod Streams
pub mod Whole
