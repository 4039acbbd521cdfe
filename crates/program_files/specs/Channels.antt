-- What is done on a file through the command level's channel, as interaction trees without a state.
use Rattle.std.specs.Prelude.{ℕ, false, List, Option}
use Rattle.monitor_calls.specs.declared.files.FileName.{FileName}
use Rattle.monitor_calls.specs.declared.files.OpenKind.{OpenKind}
use Rattle.monitor_calls.specs.declared.calls.Request.TheVariants as request
use Rattle.job_model.specs.Act.{Gives, Breaks, Break, Faulted, ◌then◌}
use Rattle.job_model.specs.Ends.{at_ends}
use Rattle.job_model.specs.Replies.{ReplyAct, asks_for, done_by, opened_by, block_by}
use Rattle.program_files.specs.declared.channels.Opened.{Opened}
use Rattle.program_files.specs.declared.channels.Opened.TheVariants as opened
use Rattle.program_files.specs.declared.channels.TheConstants.{CHANNEL}

abbrev pub FileAct : Type 0 → Type 0
FileAct A = ReplyAct A

-- THE REQUESTS

-- it gives the file's number of blocks; the code is for a new file
abbrev pub opens : FileName → OpenKind → Option ℕ → FileAct ℕ
opens name kind code = asks_for opened_by (request.OpenFile CHANNEL name kind false code)

-- the request that closes it
abbrev pub closes : Opened → FileAct Unit
closes opened.Channel = asks_for done_by (request.CloseFile CHANNEL)
closes opened.Printer = asks_for done_by request.ClosePrinter

abbrev pub gets : ℕ → FileAct (List ℕ)
gets block = asks_for block_by (request.Get CHANNEL block)

abbrev pub puts : ℕ → List ℕ → FileAct Unit
puts block page = asks_for done_by (request.Put CHANNEL block page)

abbrev pub kills : FileName → FileAct Unit
kills name = asks_for done_by (request.Kill name)

-- WHAT WAS OPENED IS CLOSED AFTER ITS USE, also after an error. The first error is the result.

-- a later error is ignored
abbrev pub first_told : {A : Type 0} → ℕ → Break ⊥ → FileAct A
first_told first (Faulted number) = Breaks (Faulted first) tt
first_told first why = Breaks why tt

-- an error stays the result, whatever error follows it
abbrev pub still_faulted : {A B : Type 0} → ℕ → FileAct A → FileAct B
still_faulted first act =
    at_ends (λ u. u) (λ _ _. Breaks (Faulted first) tt) (λ why _. first_told first why) act

abbrev pub closed_after : {A : Type 0} → Opened → Break ⊥ → FileAct A
closed_after opened (Faulted number) = still_faulted number (closes opened)
closed_after opened why = Breaks why tt

abbrev pub closed_behind : {A : Type 0} → Opened → FileAct A → FileAct A
closed_behind opened act =
    at_ends (λ u. u) (λ value _. closes opened then λ _ _. Gives value tt)
    (λ why _. closed_after opened why) act
