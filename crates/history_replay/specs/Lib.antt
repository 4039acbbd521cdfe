pub mod Disputes
pub mod Lists
pub use Rattle.terminal_runner.specs.Runs
