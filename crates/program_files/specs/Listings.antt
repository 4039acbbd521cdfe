-- How a file is printed: all its blocks in order, as one print job. The printer can be reserved for
-- several.
use Rattle.std.specs.Prelude.{ℕ, zero, suc, not, ◌==◌, List, filter, Option}
use Rattle.monitor_calls.specs.declared.files.FileName.{FileName}
use Rattle.monitor_calls.specs.declared.files.OpenKind.TheVariants.{Input}
use Rattle.monitor_calls.specs.declared.calls.Request.TheVariants as request
use Rattle.job_model.specs.Act.{Gives, ◌then◌}
use Rattle.job_model.specs.Replies.{asks_for, done_by}
use Rattle.program_files.specs.declared.channels.Opened.TheVariants.{Channel, Printer}
use Rattle.program_files.specs.Channels.{FileAct, opens, gets, closed_behind}

-- THE REQUESTS

abbrev pub assigns : FileAct Unit
assigns = asks_for done_by request.Assign

abbrev pub deassigns : FileAct Unit
deassigns = asks_for done_by request.Deassign

abbrev pub begins_listing : FileAct Unit
begins_listing = asks_for done_by request.OpenPrinter

-- what is printed of a page: its bytes without zeros
abbrev pub text_on : List ℕ → List ℕ
text_on page = filter (λ byte. not (byte == 0)) page

abbrev pub prints : List ℕ → FileAct Unit
prints page = asks_for done_by (request.Print (text_on page))

-- A PRINT JOB

abbrev pub prints_block : ℕ → FileAct Unit
prints_block block = gets block then λ page _. prints page

-- this many blocks, from this one on; the first error ends it
abbrev pub prints_from : ℕ → ℕ → FileAct Unit
prints_from block zero = Gives tt tt
prints_from block (suc more) = prints_block block then λ _ _. prints_from (suc block) more

-- a print job of this many blocks
abbrev pub prints_blocks : ℕ → FileAct Unit
prints_blocks blocks = begins_listing then λ _ _. closed_behind Printer (prints_from 1 blocks)

-- an existing file
abbrev pub prints_file : FileName → Option ℕ → FileAct Unit
prints_file name code =
    opens name Input code then λ blocks _. closed_behind Channel (prints_blocks blocks)
