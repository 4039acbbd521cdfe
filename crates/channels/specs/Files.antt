-- A job's files: its channels, RECOUNT and the buffers; and which channel a number means.
use Rattle.std.specs.Prelude.{ℕ, ◌-◌, Bool, false, if◌then◌else◌, min, List, slice_index_or, slice_set, Option, Some, None, Result, Ok, Err, ℤ, pos}
use Rattle.basic_values.specs.declared.errors.TheConstants.{ILLEGAL_CHANNEL, ALREADY_OPEN, NOT_OPEN}
use Rattle.basic_values.specs.declared.limits.TheConstants.{LAST_CHANNEL}
use Rattle.monitor_calls.specs.Volumes.{is_between}
use Rattle.job_model.specs.Act.{Act, Gives, Breaks, Faulted, on}
use Rattle.job_model.specs.Replies.{ReplyAct, no_part}
use Rattle.record_fields.specs.Layouts.{natural}
use Rattle.record_fields.specs.Sizes.{blocks_of}
use Rattle.record_fields.specs.declared.sizes.RecordSize.TheVariants.{One}
use Rattle.terminal_line.specs.declared.columns.TheConstants.{MOST_COLUMN}
use Rattle.channels.specs.declared.states.ChannelState.{ChannelState}
use Rattle.channels.specs.declared.states.Waiting.TheVariants.{Nothing}

pub record Files : Type 0 where
  -- numbered from 1
  pub channels : List ChannelState
  pub recount : ℕ
  pub buffers : List (List ℕ)

-- INTERACTION TREES

-- an interaction tree on a job's files; it leaves them in no way of its own
abbrev pub FilesAct : Type 0 → Type 0
FilesAct A = Act ⊥ Files A

-- one request; the files stay
abbrev pub asks : {A : Type 0} → ReplyAct A → Files → FilesAct A
asks request files = on no_part (λ _. request) files

-- a change of the files, without a request
abbrev pub changes : (Files → Files) → Files → FilesAct Unit
changes by files = Gives tt (by files)

-- what is tested before any request: a value, or the number of an error
abbrev pub tested : {A : Type 0} → Result A ℕ → Files → FilesAct A
tested (Ok value) files = Gives value files
tested (Err number) files = Breaks (Faulted number) files

-- THE STATE OF A CHANNEL

abbrev pub closed_channel : ChannelState
closed_channel = record {
  open_now = false;
  update = false;
  size = One;
  next = 1;
  recount = 0;
  waiting = Nothing;
  loaded = 0;
  unread = 0;
  column = 0;
}

abbrev pub channel_at : ℕ → List ChannelState → ChannelState
channel_at c channels = slice_index_or channels (c - 1) closed_channel

abbrev pub is_open_at : ℕ → List ChannelState → Bool
is_open_at c channels = (channel_at c channels).open_now

abbrev pub state_of : ℕ → Files → ChannelState
state_of c files = channel_at c files.channels

abbrev pub with_state : ℕ → ChannelState → Files → Files
with_state c state files = record files { channels = slice_set files.channels (c - 1) state }

-- WHICH CHANNEL A NUMBER MEANS, or the number of an error

abbrev pub as_channel : Option ℕ → Result ℕ ℕ
as_channel (Some c) = if is_between 1 LAST_CHANNEL c then Ok c else Err ILLEGAL_CHANNEL
as_channel None = Err ILLEGAL_CHANNEL

-- open or not
abbrev pub channel_named : ℤ → Result ℕ ℕ
channel_named number = as_channel (natural number)

abbrev pub unless_open : Result ℕ ℕ → List ChannelState → Result ℕ ℕ
unless_open (Ok c) channels = if is_open_at c channels then Err ALREADY_OPEN else Ok c
unless_open (Err number) channels = Err number

-- one that an OPEN can take
abbrev pub channel_to_open : ℤ → List ChannelState → Result ℕ ℕ
channel_to_open number channels = unless_open (channel_named number) channels

abbrev pub where_open : Result ℕ ℕ → List ChannelState → Result ℕ ℕ
where_open (Ok c) channels = if is_open_at c channels then Ok c else Err NOT_OPEN
where_open (Err number) channels = Err number

-- one that is open
abbrev pub channel_opened : ℤ → List ChannelState → Result ℕ ℕ
channel_opened number channels = where_open (channel_named number) channels

-- OF ONE CHANNEL

-- the blocks of its records
abbrev pub channel_blocks : ℕ → List ChannelState → ℕ
channel_blocks c channels = if is_open_at c channels then blocks_of (channel_at c channels).size else 1

-- a count as a program sees it, which is at most the largest number
abbrev pub shown_count : ℕ → ℤ
shown_count count = pos (min count MOST_COLUMN)

abbrev pub column_in : Result ℕ ℕ → List ChannelState → Result ℤ ℕ
column_in (Ok c) channels = Ok (shown_count (channel_at c channels).column)
column_in (Err number) channels = Err number

-- the column of a channel that is open
abbrev pub channel_column : ℤ → List ChannelState → Result ℤ ℕ
channel_column number channels = column_in (channel_opened number channels) channels
