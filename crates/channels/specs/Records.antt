-- GET, PUT and UNLOCK.
use Rattle.std.specs.Prelude.{ℕ, ◌+◌, ◌*◌, ◌==◌, if◌then◌else◌, Option, Some, None, Result, Ok, Err, ℤ}
use Rattle.basic_values.specs.declared.errors.TheConstants.{ILLEGAL_BYTE_COUNT}
use Rattle.basic_values.specs.declared.limits.TheConstants.{BLOCK_BYTES}
use Rattle.job_model.specs.Act.{◌then◌}
use Rattle.record_fields.specs.Buffers.{buffer_of, with_buffer, filled}
use Rattle.record_fields.specs.Layouts.{natural}
use Rattle.record_fields.specs.Sizes.{blocks_of}
use Rattle.channels.specs.declared.states.Waiting.TheVariants.{Nothing}
use Rattle.channels.specs.Files.{Files, FilesAct, changes, tested, state_of, with_state, channel_opened}
use Rattle.channels.specs.Transfers.{RecordRead, fetches, stores, asks_unlock}
use Rattle.channels.specs.Waiting.{settles}

abbrev pub record_in : Option ℕ → Result ℕ ℕ
record_in (Some block) = Ok block
record_in None = Err ILLEGAL_BYTE_COUNT

-- the block that RECORD names
abbrev pub record_named : ℤ → Result ℕ ℕ
record_named number = record_in (natural number)

-- 0 names the next block
abbrev pub block_or_next : ℕ → ℕ → Files → ℕ
block_or_next block c files = if block == 0 then (state_of c files).next else block

-- GET

-- a record is in the buffer: the blocks that there were, and zeros after them
abbrev pub record_got : ℕ → ℕ → RecordRead → Files → Files
record_got c block reading files =
    let bytes = BLOCK_BYTES * reading.0 in
    let behind = block + reading.0 in
    let state = record (state_of c files) { next = behind; recount = bytes; waiting = Nothing; unread = 0 } in
    record (with_state c state files) {
      recount = bytes;
      buffers = with_buffer c (filled reading.1 (buffer_of c files.buffers)) files.buffers;
    }

abbrev pub gets_at : ℕ → ℕ → Files → FilesAct Unit
gets_at c block files =
    fetches c block (state_of c files).size files then λ reading. changes (record_got c block reading)

-- pending data is written first
abbrev pub gets_on : ℕ → ℕ → Files → FilesAct Unit
gets_on c block files = settles c files then λ _ files. gets_at c (block_or_next block c files) files

abbrev pub gets_record : ℤ → ℤ → Files → FilesAct Unit
gets_record channel block files =
    tested (channel_opened channel files.channels) files then λ c files.
    tested (record_named block) files then λ block. gets_on c block

-- PUT

-- the buffer is written as a record
abbrev pub record_put : ℕ → ℕ → Files → Files
record_put c block files =
    let state = state_of c files in
    with_state c (record state { next = block + blocks_of state.size; waiting = Nothing; unread = 0 }) files

abbrev pub puts_at : ℕ → ℕ → Files → FilesAct Unit
puts_at c block files =
    stores c block (state_of c files).size (buffer_of c files.buffers) files
    then λ _. changes (record_put c block)

-- pending data is written first
abbrev pub puts_on : ℕ → ℕ → Files → FilesAct Unit
puts_on c block files = settles c files then λ _ files. puts_at c (block_or_next block c files) files

abbrev pub puts_record : ℤ → ℤ → Files → FilesAct Unit
puts_record channel block files =
    tested (channel_opened channel files.channels) files then λ c files.
    tested (record_named block) files then λ block. puts_on c block

-- UNLOCK

abbrev pub unlocks : ℤ → Files → FilesAct Unit
unlocks channel files = tested (channel_opened channel files.channels) files then λ c. asks_unlock c
