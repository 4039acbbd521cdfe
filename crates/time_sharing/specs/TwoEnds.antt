-- The two ends of the program, and what is left of them if it does not reach its output.
use Rattle.std.specs.Prelude.{◌≡◌, ℕ, ◌≤◌, List, length, Some, Result, Err, IsOk, ◌⊎◌}
use Rattle.rsts_io.specs.Ends.{SourceState, SinkState, Rose}
use Rattle.time_sharing.specs.declared.outcomes.Failure.{Failure}
use Rattle.time_sharing.specs.declared.outcomes.Failure.TheVariants as failure
use Rattle.rsts_io.specs.Whole.{IsOverLimit, IsTooMuch}

-- The program reads a source and writes to a sink. All that is said of them is what they were
-- before a call and what they are after it.

pub record Ends : Type 0 where
  pub source : SourceState
  pub sink : SinkState

abbrev pub ends : SourceState → SinkState → Ends
ends source sink = record { source = source; sink = sink }

abbrev pub NothingGiven : Ends → Ends → Type 0
NothingGiven before after = after.sink ≡ before.sink

-- the source failed once, and nothing was given
pub record SourceFailed (before after : Ends) : Type 0 where
  pub fault : Rose before.source.faults after.source.faults
  pub given : NothingGiven before after

-- one byte more than an input may have was taken
pub record InputTooLong (limit : ℕ) (before after : Ends) : Type 0 where
  pub taken : IsTooMuch limit before.source after.source
  pub given : NothingGiven before after

-- memory ran out, and no end failed
pub record WantedMemory (before after : Ends) : Type 0 where
  pub no_fault : after.source.faults ≡ before.source.faults
  pub given : NothingGiven before after

-- WHAT MUST COME

-- the source reports its bytes, they are no more than an input may have, and it does not fail
pub record IsTold (limit : ℕ) (read : List ℕ) (old new : SourceState) : Type 0 where
  pub told : old.left ≡ Some read
  pub most : length read ≤ limit
  pub no_fault : Rose old.faults new.faults → ⊥

-- unless memory runs out there is a result
abbrev pub OkOrLacked : {A : Type 0} → Result A Failure → Type 0
OkOrLacked end = IsOk end ⊎ (end ≡ Err failure.NoMemory)

-- unless memory runs out this is the failure
abbrev pub FailsOrLacked : {A : Type 0} → Failure → Result A Failure → Type 0
FailsOrLacked why end = (end ≡ Err why) ⊎ (end ≡ Err failure.NoMemory)

-- one byte more than an input may have is too much
abbrev pub EndsTooLong : {A : Type 0} → ℕ → SourceState → SourceState → Result A Failure → Type 0
EndsTooLong limit old new end = IsOverLimit limit old new → end ≡ Err failure.TooLong
