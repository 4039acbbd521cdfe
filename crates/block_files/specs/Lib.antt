pub mod Calls
pub mod Disks
pub mod Owners
pub mod Rows
pub mod Slots
