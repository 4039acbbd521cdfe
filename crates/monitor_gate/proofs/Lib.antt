pub mod Histories
pub mod Lists
pub mod Keeps
pub mod Asks
pub mod Apart
pub mod Seats
