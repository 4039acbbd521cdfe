-- Channels as PRINT #, INPUT # and POS know them: 0 is the terminal.
use Rattle.std.specs.Prelude.{ℕ, zero, suc, Bool, true, false, if◌then◌else◌, Result, Ok, ℤ, pos, negsuc}
use Rattle.std.specs.Option.{unwrap_or}
use Rattle.channels.specs.Files.{shown_count, channel_column}
use Rattle.record_fields.specs.Layouts.{natural}
use Rattle.terminal_line.specs.Columns.{column_of}
use Rattle.program_model.specs.Job.{Job}

abbrev pub is_terminal : ℤ → Bool
is_terminal (pos zero) = true
is_terminal (pos (suc n)) = false
is_terminal (negsuc n) = false

-- the column of the next byte, or the number of the error if the channel does not exist or is not
-- open
abbrev pub column_on : {R : Type 0} → ℤ → Job R → Result ℤ ℕ
column_on channel j =
    if is_terminal channel then Ok (shown_count (column_of j.screen)) else channel_column channel j.channels

abbrev pub column_count : ℤ → ℕ
column_count column = unwrap_or (natural column) 0
