pub mod Catalogs
pub mod Channels
pub mod Listings
pub mod Programs
pub mod Taken
