mod Calls
mod CopyLemmas
mod Growth
pub mod Lookups
mod MountLemmas
mod SeatLemmas
mod Records
mod Walks
