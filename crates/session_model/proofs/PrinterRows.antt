-- Examples of the commands on the printer: who owns it, a file that is printed, what is requested
-- after the first fault, and lines that are no commands.
use Rattle.std.proofs.Common.{◌≡◌, ℕ, List, [], ◌∷◌, refl}
use Rattle.std.specs.Prelude.{codes, true, false, None, Some, replicate}
use Rattle.std.specs.Fmt.{digits}
use Rattle.monitor_calls.specs.declared.files.FileName.{FileName}
use Rattle.monitor_calls.specs.declared.files.OpenKind.TheVariants.{Input}
use Rattle.monitor_calls.specs.declared.calls.Request.{Request}
use Rattle.monitor_calls.specs.declared.calls.Request.TheVariants.{Logout, OpenFile, CloseFile, Get, Assign, Deassign, OpenPrinter, Print, ClosePrinter}
use Rattle.monitor_calls.specs.declared.calls.Reply.TheVariants.{Done, Opened, Block, Failed, Expired}
use Rattle.basic_values.specs.Messages.{fault_text}
use Rattle.file_names.specs.SpecFronts.{spec_in, bracketed_in, closed_code}
use Rattle.job_model.specs.Play.{Finished}
use Rattle.monitor_calls.specs.Typing.{all_typed}
use Rattle.session_model.specs.Talk.{talk}
use Rattle.session_model.proofs.FileRows.{takes_all, account, demo, own, asks, the_page}

abbrev hi : List ℕ
hi = codes "10 PRINT \"HI\"\r\n"

abbrev list_file : ℕ → ℕ → List ℕ → FileName
list_file project programmer stem = record { owner = account project programmer; stem = stem; extension = codes "LST" }

abbrev opened_first : List ℕ → Request
opened_first stem = OpenFile 0 (own stem) Input false None

-- the printer is assigned and released; another job has it, and nobody has it
kept : asks (codes "ASSIGN LP:" ∷ codes "deassign l p :" ∷ codes "ASSIGN LP:" ∷ codes "DEASSIGN LP:" ∷ []) (Done ∷ Done ∷ Failed 8 ∷ Failed 9 ∷ Done ∷ [])
    (Assign ∷ Deassign ∷ Assign ∷ Deassign ∷ Logout ∷ [])
    (codes "ASSIGN LP:\r\nReady\r\ndeassign l p :\r\nReady\r\nASSIGN LP:\r\n?Device not available\r\nReady\r\nDEASSIGN LP:\r\n?I/O channel not open\r\nReady\r\n")
unfolding digits fault_text
kept = refl

-- a command with another tail makes no request
other_tails : asks (codes "ASSIGN" ∷ codes "ASSIGN LP" ∷ codes "ASSIGN LP: X" ∷ codes "DEASSIGN KB:" ∷ codes "QUE" ∷ codes "QUE  " ∷ codes "QUE DK:A" ∷ codes "QUE TOOLONG" ∷ []) (Done ∷ []) (Logout ∷ [])
    (codes "ASSIGN\r\n?Illegal command\r\nReady\r\nASSIGN LP\r\n?Illegal command\r\nReady\r\nASSIGN LP: X\r\n?Illegal command\r\nReady\r\nDEASSIGN KB:\r\n?Illegal command\r\nReady\r\nQUE\r\n?Illegal command\r\nReady\r\nQUE  \r\n?Illegal command\r\nReady\r\nQUE DK:A\r\n?Illegal command\r\nReady\r\nQUE TOOLONG\r\n?Illegal command\r\nReady\r\n")
unfolding digits spec_in bracketed_in closed_code
other_tails = refl

-- a file of one block, one of two blocks of which the second has only zeros, and one without blocks
printed : asks (codes "QUE DEMO.BAS" ∷ codes "que [100,6] a <42>" ∷ codes "QUE $A" ∷ [])
    (Opened 1 true true ∷ Done ∷ Block the_page ∷ Done ∷ Done ∷ Done ∷ Opened 2 true false ∷ Done ∷ Block the_page ∷ Done ∷ Block (replicate 512 0) ∷ Done ∷ Done ∷ Done ∷ Opened 0 true true ∷ Done ∷ Done ∷ Done ∷ Done ∷ [])
    (opened_first (codes "DEMO") ∷ OpenPrinter ∷ Get 0 1 ∷ Print hi ∷ ClosePrinter ∷ CloseFile 0
    ∷ OpenFile 0 (list_file 100 6 (codes "A")) Input false (Some 42) ∷ OpenPrinter ∷ Get 0 1 ∷ Print hi ∷ Get 0 2 ∷ Print [] ∷ ClosePrinter ∷ CloseFile 0
    ∷ OpenFile 0 (list_file 1 2 (codes "A")) Input false None ∷ OpenPrinter ∷ ClosePrinter ∷ CloseFile 0 ∷ Logout ∷ [])
    (codes "QUE DEMO.BAS\r\nReady\r\nque [100,6] a <42>\r\nReady\r\nQUE $A\r\nReady\r\n")
unfolding digits spec_in bracketed_in closed_code
printed = refl

-- a file that does not exist, and one while another job has the printer: only what was opened is
-- closed
refused : asks (codes "QUE A.BAS" ∷ codes "QUE A.BAS" ∷ []) (Failed 5 ∷ Opened 1 true true ∷ Failed 8 ∷ Done ∷ Done ∷ [])
    (opened_first (codes "A") ∷ opened_first (codes "A") ∷ OpenPrinter ∷ CloseFile 0 ∷ Logout ∷ [])
    (codes "QUE A.BAS\r\n?Can't find file or account\r\nReady\r\nQUE A.BAS\r\n?Device not available\r\nReady\r\n")
unfolding digits fault_text spec_in bracketed_in closed_code
refused = refl

-- reading a block fails, and printing its text fails: both are closed, and the first fault is shown
broken : asks (codes "QUE A.BAS" ∷ codes "QUE A.BAS" ∷ []) (Opened 3 true true ∷ Done ∷ Block the_page ∷ Done ∷ Failed 11 ∷ Failed 9 ∷ Failed 9 ∷ Opened 1 true true ∷ Done ∷ Block the_page ∷ Failed 31 ∷ Done ∷ Done ∷ Done ∷ [])
    (opened_first (codes "A") ∷ OpenPrinter ∷ Get 0 1 ∷ Print hi ∷ Get 0 2 ∷ ClosePrinter ∷ CloseFile 0 ∷ opened_first (codes "A") ∷ OpenPrinter ∷ Get 0 1 ∷ Print hi ∷ ClosePrinter ∷ CloseFile 0 ∷ Logout ∷ [])
    (codes "QUE A.BAS\r\n?End of file on device\r\nReady\r\nQUE A.BAS\r\n?Illegal byte count for I/O\r\nReady\r\n")
unfolding digits fault_text spec_in bracketed_in closed_code
broken = refl

-- a close that fails is requested once, and the file is closed after the printer
unclosed : asks (codes "QUE A.BAS" ∷ codes "QUE A.BAS" ∷ []) (Opened 0 true true ∷ Done ∷ Failed 9 ∷ Done ∷ Opened 0 true true ∷ Done ∷ Done ∷ Failed 9 ∷ Done ∷ [])
    (opened_first (codes "A") ∷ OpenPrinter ∷ ClosePrinter ∷ CloseFile 0 ∷ opened_first (codes "A") ∷ OpenPrinter ∷ ClosePrinter ∷ CloseFile 0 ∷ Logout ∷ [])
    (codes "QUE A.BAS\r\n?I/O channel not open\r\nReady\r\nQUE A.BAS\r\n?I/O channel not open\r\nReady\r\n")
unfolding digits fault_text spec_in bracketed_in closed_code
unclosed = refl

-- a job whose calls are used up asks nothing more
expired_in_a_listing : talk takes_all (all_typed (codes "HELLO 100,5;DEMO" ∷ codes "QUE A.BAS" ∷ codes "BYE" ∷ [])) (Done ∷ Opened 1 true true ∷ Done ∷ Block the_page ∷ Expired ∷ [])
    ≡ (demo ∷ opened_first (codes "A") ∷ OpenPrinter ∷ Get 0 1 ∷ Print hi ∷ [], Finished (codes "HELLO 100,5;DEMO\r\nReady\r\nQUE A.BAS\r\n?Job expired\r\n"))
unfolding digits spec_in
expired_in_a_listing = refl

-- before the login they are no commands
before_the_login : talk takes_all (all_typed (codes "QUE A.BAS" ∷ codes "ASSIGN LP:" ∷ codes "BYE" ∷ [])) [] ≡ ([], Finished (codes "QUE A.BAS\r\nPlease say HELLO\r\nASSIGN LP:\r\nPlease say HELLO\r\nBYE\r\n"))
before_the_login = refl
