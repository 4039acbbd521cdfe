-- Pending data of a channel: bytes that PRINT # collected, or a changed window.
use Rattle.std.specs.Prelude.{ℕ, ◌+◌, Bool, true, false, if◌then◌else◌, nat_le, take}
use Rattle.job_model.specs.Act.{Gives, ◌then◌}
use Rattle.record_fields.specs.Buffers.{buffer_of}
use Rattle.record_fields.specs.Sizes.{blocks_of, bytes_of}
use Rattle.channels.specs.declared.states.ChannelState.{ChannelState}
use Rattle.channels.specs.declared.states.Waiting.{Waiting}
use Rattle.channels.specs.declared.states.Waiting.TheVariants.{Nothing, Bytes, Window}
use Rattle.channels.specs.Files.{Files, FilesAct, changes, state_of, with_state}
use Rattle.channels.specs.Transfers.{stores, stores_block}

abbrev pub with_waiting : ℕ → Waiting → Files → Files
with_waiting c waiting files = with_state c (record (state_of c files) { waiting = waiting }) files

-- the channel moves to the block after the record of collected bytes
abbrev pub gathered_stored : ℕ → Files → Files
gathered_stored c files =
    let state = state_of c files in
    with_state c (record state { waiting = Nothing; next = state.next + blocks_of state.size }) files

abbrev pub stores_gathered : ℕ → ℕ → Files → FilesAct Unit
stores_gathered c count files =
    let state = state_of c files in
    stores c state.next state.size (take count (buffer_of c files.buffers)) files
    then λ _. changes (gathered_stored c)

-- a window that was written is clean
abbrev pub stores_window : ℕ → ℕ → Files → FilesAct Unit
stores_window c block files =
    stores_block c block (buffer_of c files.buffers) files
    then λ _. changes (with_waiting c (Window block false))

abbrev pub stores_waiting : ℕ → Waiting → Files → FilesAct Unit
stores_waiting c Nothing files = Gives tt files
stores_waiting c (Bytes count) files = stores_gathered c count files
stores_waiting c (Window block false) files = Gives tt files
stores_waiting c (Window block true) files = stores_window c block files

-- the pending data of the channel is written
abbrev pub settles : ℕ → Files → FilesAct Unit
settles c files = stores_waiting c (state_of c files).waiting files

-- BEFORE A BYTE IS COLLECTED, a whole record of bytes has to be written, and a changed window

abbrev pub is_due : ℕ → Waiting → Bool
is_due bytes Nothing = false
is_due bytes (Bytes count) = nat_le bytes count
is_due bytes (Window block dirty) = dirty

abbrev pub is_state_due : ChannelState → Bool
is_state_due state = is_due (bytes_of state.size) state.waiting

abbrev pub settles_due : ℕ → Files → FilesAct Unit
settles_due c files = if is_state_due (state_of c files) then settles c files else Gives tt files
