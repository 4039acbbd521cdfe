-- The size of a channel's records.
use Rattle.std.specs.Prelude.{ℕ, ◌*◌, Bool, true, false}
use Rattle.record_fields.specs.declared.buffers.TheConstants.{BUFFER_BYTES}
use Rattle.record_fields.specs.declared.sizes.RecordSize.{RecordSize}
use Rattle.record_fields.specs.declared.sizes.RecordSize.TheVariants.{One, Two, Three}

-- the blocks of a record
abbrev pub blocks_of : RecordSize → ℕ
blocks_of One = 1
blocks_of Two = 2
blocks_of Three = 3

-- whether a record is one block
abbrev pub is_single : RecordSize → Bool
is_single One = true
is_single Two = false
is_single Three = false

-- the bytes of a record
abbrev pub bytes_of : RecordSize → ℕ
bytes_of size = BUFFER_BYTES * blocks_of size
