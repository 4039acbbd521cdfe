pub mod Batches
pub mod Keyboards
pub mod Logs
pub mod Paced
pub mod Runs
pub mod Seats
pub mod Told
pub use Rattle.monitor_gate.specs.OneHistory
