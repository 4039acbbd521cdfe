pub mod Calls
pub mod Printed
