-- What a source over a reader and a sink over a writer do with those bytes, if they are known.
use Rattle.std.specs.Prelude.{◌≡◌, ℕ, ◌-◌, ◌^◌, ◌⊎◌, List, take, Option, None}
use Rattle.std.specs.Io.KnownBytes.{Keeps, Appends, Consumes, IsAtEnd}
use Rattle.rsts_io.specs.Ends.{SourceState, SinkState}
use Rattle.rsts_io.specs.declared.source.Took.{Took}
use Rattle.rsts_io.specs.declared.source.Took.TheVariants as took
use Rattle.rsts_io.specs.declared.sink.Gave.{Gave}
use Rattle.rsts_io.specs.declared.sink.Gave.TheVariants as gave

-- neither reports its bytes itself
abbrev pub untold_source : ℕ → ℕ → SourceState
untold_source taken faults = record { left = None; taken = taken; faults = faults }

abbrev pub untold_sink : ℕ → SinkState
untold_sink faults = record { given = None; faults = faults }

-- the bytes come from the reader; the end is the reader's, or that of the count of bytes taken
abbrev pub ReadSo : Took → List ℕ → Option (List ℕ) → Option (List ℕ) → ℕ → Type 0
ReadSo (took.Bytes n) buffer old new taken = Consumes old new (take n buffer)
ReadSo took.End buffer old new taken = (taken ≡ 2 ^ 64 - 1) ⊎ IsAtEnd new
ReadSo took.Failed buffer old new taken = Keeps old new

-- the bytes go to the writer
abbrev pub WrittenSo : Gave → List ℕ → Option (List ℕ) → Option (List ℕ) → Type 0
WrittenSo (gave.Bytes n) piece old new = Appends old new (take n piece)
WrittenSo gave.Failed piece old new = Keeps old new
