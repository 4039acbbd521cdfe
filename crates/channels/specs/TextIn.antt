-- INPUT # on a channel: a line, from as many records as it needs.
use Rattle.std.specs.Prelude.{ℕ, zero, suc, ◌+◌, ◌-◌, ◌*◌, Bool, ◌==◌, ◌&&◌, not, if◌then◌else◌, nat_lt, List, [], ◌∷◌, ◌++◌, length, take, drop, slice_index, ℤ}
use Rattle.basic_values.specs.declared.errors.TheConstants.{END_OF_FILE, DATA_FORMAT_ERROR}
use Rattle.basic_values.specs.declared.limits.TheConstants.{BLOCK_BYTES}
use Rattle.job_model.specs.Act.{Gives, Breaks, Break, Faulted, Gone, ◌then◌}
use Rattle.job_model.specs.Ends.{at_ends}
use Rattle.record_fields.specs.Buffers.{buffer_of, with_buffer, filled}
use Rattle.channels.specs.declared.states.ChannelState.{ChannelState}
use Rattle.channels.specs.declared.states.Waiting.TheVariants.{Nothing}
use Rattle.channels.specs.declared.lines.Taken.{Taken}
use Rattle.channels.specs.declared.lines.Taken.TheVariants.{AllTaken, LineTaken, TooMany}
use Rattle.channels.specs.declared.lines.Turn.{Turn}
use Rattle.channels.specs.declared.lines.Turn.TheVariants.{GoesOn, IsWhole}
use Rattle.channels.specs.declared.lines.TheConstants.{LINE_FEED, RETURN, MOST_TAKEN, MOST_LINE, MOST_TURNS}
use Rattle.channels.specs.Files.{Files, FilesAct, changes, tested, state_of, with_state, channel_opened}
use Rattle.channels.specs.Transfers.{RecordRead, fetches}
use Rattle.channels.specs.Waiting.{settles}

-- READING A RECORD, whose bytes are then unread

abbrev pub record_loaded : ℕ → RecordRead → Files → Files
record_loaded c reading files =
    let bytes = BLOCK_BYTES * reading.0 in
    let old = state_of c files in
    let state = record old { next = old.next + reading.0; waiting = Nothing; loaded = bytes; unread = bytes } in
    record (with_state c state files) {
      buffers = with_buffer c (filled reading.1 (buffer_of c files.buffers)) files.buffers;
    }

abbrev pub reads_next : ℕ → Files → FilesAct Unit
reads_next c files =
    let state = state_of c files in
    fetches c state.next state.size files then λ reading. changes (record_loaded c reading)

-- TAKING BYTES

-- A line takes bytes up to its line feed, and none of the zeros: all of these bytes; or those of
-- the rest of the line; or more than a line can have. The last two leave this many bytes.
abbrev pub takes_from : List ℕ → List ℕ → Taken
takes_from line [] = AllTaken line
takes_from line (byte ∷ bytes) =
    if byte == 0 then takes_from line bytes
    else if byte == LINE_FEED then LineTaken line (length bytes)
    else if nat_lt (length line + 1) MOST_TAKEN then takes_from (line ++ byte ∷ []) bytes
    else TooMany (length bytes)

-- the bytes of the last record that no line has taken
abbrev pub unread_bytes : ChannelState → List ℕ → List ℕ
unread_bytes state buffer = take state.unread (drop (state.loaded - state.unread) buffer)

abbrev pub takes_unread : ℕ → List ℕ → Files → Taken
takes_unread c line files = takes_from line (unread_bytes (state_of c files) (buffer_of c files.buffers))

abbrev pub with_unread : ℕ → ℕ → Files → Files
with_unread c count files = with_state c (record (state_of c files) { unread = count }) files

-- THE LINE

-- without the CR before its line feed
abbrev pub without_last_return : List ℕ → List ℕ
without_last_return line =
    let kept = length line - 1 in
    if slice_index line kept == RETURN then take kept line else line

abbrev pub ends_line : List ℕ → Files → FilesAct Turn
ends_line line files =
    if nat_lt MOST_LINE (length line) then Breaks (Faulted DATA_FORMAT_ERROR) files
    else Gives (IsWhole line) files

-- at the end of the file, what was taken is the line
abbrev pub ends_at_stop : List ℕ → Break ⊥ → Files → FilesAct Turn
ends_at_stop line (Faulted number) files =
    if number == END_OF_FILE && nat_lt 0 (length line) then ends_line line files
    else Breaks (Faulted number) files
ends_at_stop line why files = Breaks why files

-- what reading the next record leads to
abbrev pub goes_on_with : List ℕ → FilesAct Unit → FilesAct Turn
goes_on_with line act =
    at_ends (λ files. files) (λ _ files. Gives (GoesOn line) files) (ends_at_stop line) act

abbrev pub behind_taking : ℕ → Taken → Files → FilesAct Turn
behind_taking c (AllTaken line) files = goes_on_with line (reads_next c (with_unread c 0 files))
behind_taking c (LineTaken line left) files = ends_line (without_last_return line) (with_unread c left files)
behind_taking c (TooMany left) files = Breaks (Faulted DATA_FORMAT_ERROR) (with_unread c left files)

-- what is unread is taken; if the line continues after it, the next record is read
abbrev pub takes_turn : ℕ → List ℕ → Files → FilesAct Turn
takes_turn c line files = behind_taking c (takes_unread c line files) files

abbrev pub behind_turn : (List ℕ → Files → FilesAct (List ℕ)) → Turn → Files → FilesAct (List ℕ)
behind_turn more (GoesOn line) files = more line files
behind_turn more (IsWhole line) files = Gives line files

-- Each turn except the last reads a record. This many turns reach no end only if there are more
-- blocks than a disk has.
abbrev pub line_from : ℕ → ℕ → List ℕ → Files → FilesAct (List ℕ)
line_from zero c line files = Breaks Gone files
line_from (suc more) c line files = takes_turn c line files then behind_turn (line_from more c)

unfoldable pub whole_line : ℕ → Files → FilesAct (List ℕ)
whole_line c files = line_from MOST_TURNS c [] files

abbrev pub reads_line : ℤ → Files → FilesAct (List ℕ)
reads_line channel files =
    tested (channel_opened channel files.channels) files then λ c files.
    settles c files then λ _. whole_line c

-- SEVERAL BYTES TOGETHER. No contract of a public call mentions this.

-- whether a byte is added to the line
abbrev pub is_kept : ℕ → Bool
is_kept byte = not (byte == 0) && not (byte == LINE_FEED)

-- how many more bytes a line can have
abbrev pub line_room : List ℕ → ℕ
line_room line = MOST_TAKEN - 1 - length line

abbrev pub bytes_left : Taken → ℕ
bytes_left (AllTaken line) = 0
bytes_left (LineTaken line left) = left
bytes_left (TooMany left) = left
