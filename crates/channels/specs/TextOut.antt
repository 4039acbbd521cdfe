-- PRINT # on a channel: its bytes are collected in the buffer, which is written each time it is
-- full.
use Rattle.std.specs.Prelude.{ℕ, ◌+◌, List, [], ◌∷◌, length, slice_set, ℤ}
use Rattle.std.specs.List.{fold}
use Rattle.job_model.specs.Act.{Gives, ◌then◌}
use Rattle.record_fields.specs.Buffers.{buffer_of, with_buffer, written_from}
use Rattle.terminal_line.specs.Columns.{column_behind}
use Rattle.channels.specs.declared.states.Waiting.{Waiting}
use Rattle.channels.specs.declared.states.Waiting.TheVariants.{Nothing, Bytes, Window}
use Rattle.channels.specs.Files.{Files, FilesAct, tested, state_of, with_state, channel_opened}
use Rattle.channels.specs.Waiting.{settles_due}

-- how many bytes are collected
abbrev pub bytes_waiting : Waiting → ℕ
bytes_waiting Nothing = 0
bytes_waiting (Bytes count) = count
bytes_waiting (Window block dirty) = 0

-- one more byte
abbrev pub byte_gathered : ℕ → ℕ → Files → Files
byte_gathered c byte files =
    let state = state_of c files in
    let count = bytes_waiting state.waiting in
    record (with_state c (record state { waiting = Bytes (count + 1); unread = 0; column = column_behind state.column byte }) files) {
      buffers = with_buffer c (slice_set (buffer_of c files.buffers) count byte) files.buffers;
    }

-- one byte after another; a full buffer is written after the byte that filled it
abbrev pub gathers : ℕ → List ℕ → Files → FilesAct Unit
gathers c [] files = Gives tt files
gathers c (byte ∷ bytes) files = settles_due c (byte_gathered c byte files) then λ _. gathers c bytes

-- one write; what was refused before is written first
abbrev pub writes_text : ℤ → List ℕ → Files → FilesAct Unit
writes_text channel bytes files =
    tested (channel_opened channel files.channels) files then λ c files.
    settles_due c files then λ _. gathers c bytes

-- SEVERAL BYTES TOGETHER. No contract of a public call mentions this.

-- bytes that fit into the buffer
abbrev pub run_gathered : ℕ → List ℕ → Files → Files
run_gathered c run files =
    let state = state_of c files in
    let count = bytes_waiting state.waiting in
    record (with_state c (record state { waiting = Bytes (count + length run); unread = 0; column = fold column_behind state.column run }) files) {
      buffers = with_buffer c (written_from count run (buffer_of c files.buffers)) files.buffers;
    }
