-- Print jobs: what the printer printed, from the call that opened it up to what ended that.
use Rattle.std.specs.Prelude.{◌≡◌, ◌==◌, ℕ, Bool, true, false, if◌then◌else◌, List, [], ◌∷◌, ◌++◌}
use Rattle.monitor_calls.specs.declared.calls.Entry.{Entry}
use Rattle.monitor_calls.specs.declared.calls.Request.{Request}
use Rattle.monitor_calls.specs.declared.calls.Request.TheVariants.{Logout, Assign, OpenPrinter, Print, ClosePrinter}
use Rattle.monitor_calls.specs.declared.calls.Reply.{Reply}
use Rattle.monitor_calls.specs.declared.calls.Reply.TheVariants.{Done, Expired}

-- CALLS

-- an OpenPrinter that was done begins a print job of its job
abbrev pub is_begin : Request → Reply → Bool
is_begin OpenPrinter Done = true
is_begin request reply = false

-- a ClosePrinter that was done ends it, and so does the end of the job: its Logout, or a call that
-- was Expired
abbrev pub is_finish : Request → Reply → Bool
is_finish Logout reply = true
is_finish request Expired = true
is_finish ClosePrinter Done = true
is_finish request reply = false

-- the bytes of a Print that was done are printed, and nothing else
abbrev pub printed_by : Request → Reply → List ℕ
printed_by (Print text) Done = text
printed_by request reply = []

-- whether a request asks for the printer, and whether it asks for it or prints
abbrev pub wants_printer : Request → Bool
wants_printer Assign = true
wants_printer OpenPrinter = true
wants_printer request = false

abbrev pub uses_printer : Request → Bool
uses_printer (Print text) = true
uses_printer request = wants_printer request

-- A PRINT JOB THAT GOES ON

-- none of these calls ends a print job of the job
abbrev pub NoFinish : ℕ → List Entry → Type 0
NoFinish job [] = Unit {0}
NoFinish job (entry ∷ entries) =
    (entry.job ≡ job → is_finish entry.request entry.reply ≡ false) × NoFinish job entries

-- after the history `past` the job is printing: it began a print job, and nothing has ended that
-- since
pub record InListing (past : List Entry) (job : ℕ) : Type 0 where
  pub before : List Entry
  pub by : Entry
  pub between : List Entry
  pub is : past ≡ before ++ by ∷ between
  pub of_job : by.job ≡ job
  pub begins : by.request ≡ OpenPrinter
  pub is_done : by.reply ≡ Done
  pub no_finish : NoFinish job between

-- ALL PRINT JOBS

-- what is printed in a history, joined
abbrev pub printed : List Entry → List ℕ
printed [] = []
printed (entry ∷ entries) = printed_by entry.request entry.reply ++ printed entries

-- what the job prints up to the first end of its print job, joined
abbrev pub listing : ℕ → List Entry → List ℕ
listing job [] = []
listing job (entry ∷ entries) =
    if entry.job == job
    then (if is_finish entry.request entry.reply
    then []
    else printed_by entry.request entry.reply ++ listing job entries)
    else listing job entries

-- the print jobs in the order in which they begin: the job of each, and its bytes
abbrev pub listings : List Entry → List (ℕ × List ℕ)
listings [] = []
listings (entry ∷ entries) =
    if is_begin entry.request entry.reply
    then (entry.job, listing entry.job entries) ∷ listings entries
    else listings entries

-- their bytes, joined
abbrev pub joined : List (ℕ × List ℕ) → List ℕ
joined [] = []
joined (first ∷ rest) = first.1 ++ joined rest
