pub mod Walk
pub mod Views
