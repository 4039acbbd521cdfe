pub mod LineItems
