-- OPEN, CLOSE, and the implicit close.
use Rattle.std.specs.Prelude.{ℕ, zero, suc, Bool, true, if◌then◌else◌, Option, Some, None, ℤ}
use Rattle.basic_values.specs.declared.limits.TheConstants.{LAST_CHANNEL}
use Rattle.monitor_calls.specs.declared.files.FileName.{FileName}
use Rattle.monitor_calls.specs.declared.files.OpenKind.{OpenKind}
use Rattle.monitor_calls.specs.declared.calls.Request.TheVariants as request
use Rattle.job_model.specs.Act.{Gives, Breaks, Break, Faulted, ◌then◌}
use Rattle.job_model.specs.Ends.{at_ends}
use Rattle.job_model.specs.Replies.{asks_for, opened_by}
use Rattle.record_fields.specs.Buffers.{blank, with_buffer}
use Rattle.record_fields.specs.declared.sizes.RecordSize.{RecordSize}
use Rattle.record_fields.specs.declared.sizes.RecordSize.TheVariants.{One}
use Rattle.channels.specs.Files.{Files, FilesAct, asks, changes, tested, closed_channel, with_state, channel_named, is_open_at}
use Rattle.channels.specs.Transfers.{asks_close}
use Rattle.channels.specs.Waiting.{settles}

-- OPEN

-- the channel is open for records of this size, with a buffer of zeros
abbrev pub with_opened : ℕ → Bool → RecordSize → Files → Files
with_opened c update size files = record (with_state c (record closed_channel { open_now = true; update = update; size = size }) files) {
  buffers = with_buffer c (blank size) files.buffers;
}

-- the buffer of a channel that is not open: one block of zeros
abbrev pub with_blank : ℕ → Files → Files
with_blank c files = record files { buffers = with_buffer c (blank One) files.buffers }

-- The channel is one that an OPEN can take, and the code is for a new file. A refusal leaves the
-- channel a blank buffer.
abbrev pub opens_file : ℕ → FileName → OpenKind → Bool → Option ℕ → RecordSize → Files → FilesAct Unit
opens_file c name kind update code size files =
    at_ends (with_blank c)
    (λ _. changes (with_opened c update size))
    (λ why files. Breaks why (with_blank c files))
    (asks (asks_for opened_by (request.OpenFile c name kind update code)) files)

-- CLOSE: it returns which channel was closed

abbrev pub with_closed : ℕ → Files → Files
with_closed c files = with_blank c (with_state c closed_channel files)

abbrev pub tells_closed : ℕ → Files → FilesAct (Option ℕ)
tells_closed c files = Gives (Some c) (with_closed c files)

-- pending data is written first
abbrev pub closes_on : ℕ → Files → FilesAct (Option ℕ)
closes_on c files = settles c files then λ _ files. asks_close c files then λ _. tells_closed c

-- a channel that is not open is skipped
abbrev pub if_opened : Bool → (Files → FilesAct (Option ℕ)) → Files → FilesAct (Option ℕ)
if_opened is act files = if is then act files else Gives None files

abbrev pub closes_file : ℤ → Files → FilesAct (Option ℕ)
closes_file channel files =
    tested (channel_named channel) files then λ c files.
    if_opened (is_open_at c files.channels) (closes_on c) files

-- THE IMPLICIT CLOSE: refusals are ignored, and the channel counts as closed

abbrev pub past_faults : Break ⊥ → Files → FilesAct Unit
past_faults (Faulted number) files = Gives tt files
past_faults why files = Breaks why files

abbrev pub quietly : FilesAct Unit → FilesAct Unit
quietly act = at_ends (λ files. files) (λ _ files. Gives tt files) past_faults act

abbrev pub shuts_on : ℕ → Files → FilesAct (Option ℕ)
shuts_on c files =
    quietly (settles c files) then λ _ files. quietly (asks_close c files) then λ _. tells_closed c

-- it returns which channel was closed
abbrev pub shuts_file : ℕ → Files → FilesAct (Option ℕ)
shuts_file c files = if_opened (is_open_at c files.channels) (shuts_on c) files

-- this many channels from this one on
abbrev pub closes_from : ℕ → ℕ → Files → FilesAct Unit
closes_from c zero files = Gives tt files
closes_from c (suc more) files = shuts_file c files then λ _. closes_from (suc c) more

-- all channels, in increasing order
abbrev pub closes_all : Files → FilesAct Unit
closes_all = closes_from 1 LAST_CHANNEL
