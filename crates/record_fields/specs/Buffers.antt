-- The buffers of a job's channels, as a list.
use Rattle.std.specs.Prelude.{ℕ, ◌-◌, ◌+◌, ◌≤◌, if◌then◌else◌, List, [], ◌++◌, take, drop, length, replicate, slice_index_or, slice_set}
use Rattle.record_fields.specs.declared.buffers.TheConstants.{BUFFER_COUNT}
use Rattle.record_fields.specs.declared.sizes.RecordSize.{RecordSize}
use Rattle.record_fields.specs.declared.parts.Part.{Part}
use Rattle.record_fields.specs.Parts.{lies_in, with_part}
use Rattle.record_fields.specs.Sizes.{bytes_of}

-- the number of a channel that has a buffer
pub record IsChannel (channel : ℕ) : Type 0 where
  pub low : 1 ≤ channel
  pub high : channel ≤ BUFFER_COUNT

-- the buffer of a channel
abbrev pub buffer_of : ℕ → List (List ℕ) → List ℕ
buffer_of channel buffers = slice_index_or buffers (channel - 1) []

-- the buffers with another one for this channel
abbrev pub with_buffer : ℕ → List ℕ → List (List ℕ) → List (List ℕ)
with_buffer channel bytes buffers = slice_set buffers (channel - 1) bytes

-- a buffer of zeros
abbrev pub blank : RecordSize → List ℕ
blank size = replicate (bytes_of size) 0

-- the first of these bytes, with zeros after fewer ones
abbrev pub zero_filled : ℕ → List ℕ → List ℕ
zero_filled width bytes = take width bytes ++ replicate (width - length bytes) 0

-- a buffer that begins with these bytes, with zeros after them; it keeps its size
abbrev pub filled : List ℕ → List ℕ → List ℕ
filled bytes buffer = zero_filled (length buffer) bytes

-- a buffer in which a part begins with these bytes, with zeros after them; a part that is not in
-- the buffer is ignored
abbrev pub fill_part : Part → List ℕ → List ℕ → List ℕ
fill_part part bytes buffer = if lies_in (length buffer) part then with_part part (zero_filled part.length bytes) buffer else buffer

-- a buffer with these bytes from a place on; bytes past its end are dropped
abbrev pub written_from : ℕ → List ℕ → List ℕ → List ℕ
written_from place bytes buffer = take (length buffer) (take place buffer ++ bytes ++ drop (place + length bytes) buffer)
