-- The window of arrays in files: a block of the file that is in the channel's buffer.
use Rattle.std.specs.Prelude.{ℕ, ◌==◌, Bool, true, false, ◌&&◌, if◌then◌else◌, List, []}
use Rattle.basic_values.specs.declared.errors.TheConstants.{END_OF_FILE}
use Rattle.job_model.specs.Act.{Breaks, Break, Faulted, ◌then◌}
use Rattle.job_model.specs.Ends.{at_ends}
use Rattle.record_fields.specs.Buffers.{buffer_of, with_buffer, filled}
use Rattle.channels.specs.declared.states.Waiting.{Waiting}
use Rattle.channels.specs.declared.states.Waiting.TheVariants.{Nothing, Bytes, Window}
use Rattle.channels.specs.Files.{Files, FilesAct, changes, state_of, with_state}
use Rattle.channels.specs.Transfers.{asks_block}
use Rattle.channels.specs.Waiting.{with_waiting, settles}

-- a page is in the buffer as the window
abbrev pub with_window : ℕ → ℕ → Bool → List ℕ → Files → Files
with_window c block dirty page files = record (with_state c (record (state_of c files) { waiting = Window block dirty; unread = 0 }) files) {
  buffers = with_buffer c (filled page (buffer_of c files.buffers)) files.buffers;
}

-- for writing, a block past the end of the file is a window of zeros
abbrev pub zeros_at_end : ℕ → ℕ → Bool → Break ⊥ → Files → FilesAct Unit
zeros_at_end c block writing (Faulted number) files =
    if writing && number == END_OF_FILE then changes (with_window c block true []) files
    else Breaks (Faulted number) files
zeros_at_end c block writing why files = Breaks why files

-- what reading the block leads to
abbrev pub framed : ℕ → ℕ → Bool → FilesAct (List ℕ) → FilesAct Unit
framed c block writing act =
    at_ends (λ files. files) (λ page. changes (with_window c block writing page)) (zeros_at_end c block writing) act

abbrev pub reads_window : ℕ → ℕ → Bool → Files → FilesAct Unit
reads_window c block writing files = framed c block writing (asks_block c block files)

-- pending data is written first
abbrev pub changes_window : ℕ → ℕ → Bool → Files → FilesAct Unit
changes_window c block writing files = settles c files then λ _. reads_window c block writing

abbrev pub is_window : ℕ → Waiting → Bool
is_window block Nothing = false
is_window block (Bytes count) = false
is_window block (Window other dirty) = other == block

-- the window is dirty, if it is written to
abbrev pub with_use : ℕ → ℕ → Bool → Files → Files
with_use c block writing files = if writing then with_waiting c (Window block true) files else files

-- the block becomes the window of a channel that is open, with records of one block
abbrev pub opens_window : ℕ → ℕ → Bool → Files → FilesAct Unit
opens_window c block writing files =
    if is_window block (state_of c files).waiting then changes (with_use c block writing) files
    else changes_window c block writing files
