pub mod Sums
pub mod Placed
