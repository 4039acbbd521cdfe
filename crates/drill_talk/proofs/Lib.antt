pub mod Counted
mod DrillProgram
mod DrillTurns
mod NumberRows
mod Safe
mod SafeLemmas
mod SessionEnds
mod SessionRows
mod Turns
