-- What was read from a source, and what was given to a sink.
use Rattle.std.specs.Prelude.{◌≡◌, ℕ, ◌+◌, ◌<◌, ◌≤◌, List, [], ◌++◌, length, Option, Some, None, Result, Ok, Err}
use Rattle.std.specs.Global.{Vec}
use Rattle.rsts_io.specs.Ends.{SourceState, SinkState, Rose, AreNext, Appended}
use Rattle.rsts_io.specs.declared.whole.ReadEnd.{ReadEnd}
use Rattle.rsts_io.specs.declared.whole.ReadEnd.TheVariants as end

-- the bytes were all that was left, if that is reported
abbrev pub AreAll : List ℕ → Option (List ℕ) → Option (List ℕ) → Type 0
AreAll bytes None after = after ≡ None
AreAll bytes (Some left) after = (left ≡ bytes) × (after ≡ Some [])

-- the source was read to its end and did not fail, and these bytes are what it had: no more than an
-- input may have
pub record IsInput (limit : ℕ) (read : List ℕ) (old new : SourceState) : Type 0 where
  pub all : AreAll read old.left new.left
  pub count : new.taken ≡ old.taken + length read
  pub most : length read ≤ limit
  pub no_fault : new.faults ≡ old.faults

-- one byte more than an input may have was taken
abbrev pub IsOverLimit : ℕ → SourceState → SourceState → Type 0
IsOverLimit limit old new = new.taken ≡ old.taken + (limit + 1)

-- and the source did not fail
pub record IsTooMuch (limit : ℕ) (old new : SourceState) : Type 0 where
  pub count : IsOverLimit limit old new
  pub no_fault : new.faults ≡ old.faults

-- how reading a source ends
abbrev pub ReadWhole : ℕ → Result (Vec ℕ) ReadEnd → SourceState → SourceState → Type 0
ReadWhole limit (Ok bytes) old new = IsInput limit bytes.items old new
ReadWhole limit (Err end.Fault) old new = Rose old.faults new.faults
ReadWhole limit (Err end.TooLong) old new = IsTooMuch limit old new
ReadWhole limit (Err end.NoMemory) old new = new.faults ≡ old.faults

-- what was taken was the next of what was left, if that is reported, and is at most one byte more
-- than an input may have
pub record TookNext (limit : ℕ) (old new : SourceState) : Type 0 where
  pub bytes : List ℕ
  pub count : new.taken ≡ old.taken + length bytes
  pub most : length bytes ≤ limit + 1
  pub next : AreNext bytes old.left new.left

-- the bytes were given, and the sink did not fail
pub record Written (bytes : List ℕ) (old new : SinkState) : Type 0 where
  pub given : Appended bytes old.given new.given
  pub no_fault : new.faults ≡ old.faults

-- a prefix of the bytes was given, and not all of them
abbrev pub GaveFront : List ℕ → Option (List ℕ) → Option (List ℕ) → Type 0
GaveFront bytes given given' =
    (front rest : List ℕ) × (bytes ≡ front ++ rest) × (0 < length rest)
    × Appended front given given'

-- the sink failed once, and has a prefix of the bytes, and not all of them
pub record BrokeOff (bytes : List ℕ) (old new : SinkState) : Type 0 where
  pub front : GaveFront bytes old.given new.given
  pub fault : Rose old.faults new.faults
