pub mod OneHistory
pub mod Passes
pub mod Recorded
pub mod Turns
pub use Rattle.monitor_model.specs.History
pub use Rattle.monitor_model.specs.State
