pub mod Acts
pub mod Files
pub mod Pages
pub mod Printed
