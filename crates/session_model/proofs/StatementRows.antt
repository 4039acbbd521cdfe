-- Examples of the statements on files: what programs request, and what they leave open.
use Rattle.std.proofs.Common.{◌≡◌, ℕ, suc, true, false, List, [], ◌∷◌, refl}
use Rattle.std.specs.Prelude.{codes, replicate, if◌then◌else◌, Some, None}
use Rattle.std.specs.Fmt.{digits}
use Rattle.basic_values.specs.Arithmetic.{repeated_product}
use Rattle.basic_values.specs.Messages.{fault_text}
use Rattle.basic_strings.specs.Places.{place_of}
use Rattle.basic_strings.specs.Readings.{value_read, item_read}
use Rattle.basic_tree.specs.Words.{keywords, signs}
use Rattle.basic_tree.specs.Tokens.{letter_front, digit_front, quote_front, sign_front, front_of, items_from, tokens_from}
use Rattle.grammar_machine.specs.MachineRun.{run}
use Rattle.grammar_machine.specs.MachineJudge.{verdict_of}
use Rattle.channels.specs.declared.states.ChannelState.{ChannelState}
use Rattle.file_names.specs.SpecFronts.{spec_in, bracketed_in, closed_code}
use Rattle.monitor_calls.specs.declared.names.Account.{Account}
use Rattle.monitor_calls.specs.declared.files.FileName.{FileName}
use Rattle.monitor_calls.specs.declared.files.OpenKind.TheVariants.{Either, Output}
use Rattle.monitor_calls.specs.declared.calls.Request.{Request}
use Rattle.monitor_calls.specs.declared.calls.Request.TheVariants.{OpenFile, CloseFile, Get, Put, GetRecord, Unlock, Kill, Rename, Sleep}
use Rattle.monitor_calls.specs.declared.calls.Reply.{Reply}
use Rattle.monitor_calls.specs.declared.calls.Reply.TheVariants.{Done, Opened, Block, Record, Failed, Expired}
use Rattle.job_model.specs.Play.{at_start, End, Gave, Broke, Finished, Waits, Listens, Spent, Outcome, play}
use Rattle.monitor_calls.specs.Typing.{Over}
use Rattle.program_model.specs.Program.{Position}
use Rattle.program_model.specs.Job.{Job, Leaving}
use Rattle.program_model.specs.Running.{Coming, runs_whole}
use Rattle.program_model.specs.Reports.{ended_screen}
use Rattle.session_model.proofs.ProgramRows.{program_read, new_job}

-- what a program requests with these replies
abbrev pub asked : List (ℕ × List ℕ) → List Reply → List Request
asked lines replies = (play (runs_whole (program_read lines) 500 new_job) at_start 900 Over replies).0

-- how many channels it leaves open, and what it shows
abbrev count_open : List ChannelState → ℕ
count_open [] = 0
count_open (state ∷ states) = if state.open_now then suc (count_open states) else count_open states

abbrev open_at : Outcome (End (Leaving Position) (Job Position) Coming) → ℕ × List ℕ
open_at (Finished (Broke why j)) = (count_open j.channels, ended_screen why j)
open_at (Finished (Gave coming j)) = (100, [])
open_at Waits = (101, [])
open_at Listens = (103, [])
open_at Spent = (102, [])

abbrev pub left_open : List (ℕ × List ℕ) → List Reply → ℕ × List ℕ
left_open lines replies = open_at (play (runs_whole (program_read lines) 500 new_job) at_start 900 Over replies).1

abbrev pub zeros : List ℕ
zeros = replicate 512 0

abbrev account : ℕ → ℕ → Account
account project programmer = record { project = project; programmer = programmer }

abbrev pub own : List ℕ → FileName
own stem = record { owner = account 100 5; stem = stem; extension = [] }

-- OPEN makes the file or takes the one that exists; GET without a block takes the next one, and the
-- end of the program closes it
get_of_the_next : asked ((10, codes "OPEN 'A' AS FILE 1%") ∷ (20, codes "GET #1% : GET #1%") ∷ []) (Opened 2 true true ∷ Block zeros ∷ Block zeros ∷ Done ∷ []) ≡ (OpenFile 1 (own (codes "A")) Either false None ∷ Get 1 1 ∷ Get 1 2 ∷ CloseFile 1 ∷ [])
unfolding digits fault_text repeated_product place_of value_read item_read keywords signs letter_front digit_front quote_front sign_front front_of items_from tokens_from run verdict_of spec_in bracketed_in closed_code
get_of_the_next = refl

-- the purpose, the mode, the extension and the code of an OPEN
opened_for : asked ((10, codes "OPEN 'a.b<40>' FOR OUTPUT AS FILE #2%, CLUSTERSIZE 9%, MODE 1%") ∷ []) (Opened 2 true true ∷ Done ∷ []) ≡ (OpenFile 2 (record { owner = account 100 5; stem = codes "A"; extension = codes "B" }) Output true (Some 40) ∷ CloseFile 2 ∷ [])
unfolding digits fault_text repeated_product place_of value_read item_read keywords signs letter_front digit_front quote_front sign_front front_of items_from tokens_from run verdict_of spec_in bracketed_in closed_code
opened_for = refl

-- after a GET the next block is the one after it
put_behind_get : asked ((10, codes "OPEN 'A' AS FILE 1%") ∷ (20, codes "GET #1%, RECORD 5%") ∷ (30, codes "PUT #1%") ∷ (40, codes "END") ∷ []) (Opened 2 true true ∷ Block zeros ∷ Done ∷ Done ∷ []) ≡ (OpenFile 1 (own (codes "A")) Either false None ∷ Get 1 5 ∷ Put 1 6 zeros ∷ CloseFile 1 ∷ [])
unfolding digits fault_text repeated_product place_of value_read item_read keywords signs letter_front digit_front quote_front sign_front front_of items_from tokens_from run verdict_of spec_in bracketed_in closed_code
put_behind_get = refl

-- a GET that fails is a fault, which leaves the channel open
refused_get : left_open ((10, codes "OPEN 'A' AS FILE 1%") ∷ (20, codes "GET #1%") ∷ []) (Opened 2 true true ∷ Failed 19 ∷ []) ≡ (1, codes "?Disk block is interlocked at line 20\r\n")
unfolding digits fault_text repeated_product place_of value_read item_read keywords signs letter_front digit_front quote_front sign_front front_of items_from tokens_from run verdict_of spec_in bracketed_in closed_code
refused_get = refl

-- it can be trapped
trapped_get : asked ((10, codes "ON ERROR GOTO 40") ∷ (20, codes "OPEN 'A' AS FILE 1% : GET #1%") ∷ (30, codes "STOP") ∷ (40, codes "RESUME 50") ∷ (50, codes "CLOSE 1%, #2%") ∷ []) (Opened 2 true true ∷ Failed 11 ∷ Done ∷ []) ≡ (OpenFile 1 (own (codes "A")) Either false None ∷ Get 1 1 ∷ CloseFile 1 ∷ [])
unfolding digits fault_text repeated_product place_of value_read item_read keywords signs letter_front digit_front quote_front sign_front front_of items_from tokens_from run verdict_of spec_in bracketed_in closed_code
trapped_get = refl

-- a STOP closes nothing
stop_leaves_open : left_open ((10, codes "OPEN 'A' AS FILE 1%") ∷ (20, codes "STOP") ∷ []) (Opened 2 true true ∷ []) ≡ (1, codes "Stop at line 20\r\n")
unfolding digits fault_text repeated_product place_of value_read item_read keywords signs letter_front digit_front quote_front sign_front front_of items_from tokens_from run verdict_of spec_in bracketed_in closed_code
stop_leaves_open = refl

-- the end of the program ignores that a close fails, and continues with the next channel
quiet_end : left_open ((10, codes "OPEN 'A' AS FILE 1%") ∷ (20, codes "OPEN 'B' AS FILE 12%") ∷ []) (Opened 2 true true ∷ Opened 2 true true ∷ Failed 5 ∷ Done ∷ []) ≡ (0, [])
unfolding digits fault_text repeated_product place_of value_read item_read keywords signs letter_front digit_front quote_front sign_front front_of items_from tokens_from run verdict_of spec_in bracketed_in closed_code
quiet_end = refl

-- the operands of an OPEN are evaluated before its other tests
operands_first : left_open ((10, codes "OPEN 'A' AS FILE 13%, MODE 1%/0%") ∷ []) [] ≡ (0, codes "?Division by 0 at line 10\r\n")
unfolding digits fault_text repeated_product place_of value_read item_read keywords signs letter_front digit_front quote_front sign_front front_of items_from tokens_from run verdict_of spec_in bracketed_in closed_code
operands_first = refl

-- 46 comes first, then 7, 31, and 8 or 2
channel_first : left_open ((10, codes "OPEN 'D:A' AS FILE 13%, RECORDSIZE 7%") ∷ []) [] ≡ (0, codes "?Illegal I/O channel at line 10\r\n")
unfolding digits fault_text repeated_product place_of value_read item_read keywords signs letter_front digit_front quote_front sign_front front_of items_from tokens_from run verdict_of spec_in bracketed_in closed_code
channel_first = refl

-- and so on
size_before_name : left_open ((10, codes "OPEN 'D:A' AS FILE 1%, RECORDSIZE 513%") ∷ []) [] ≡ (0, codes "?Illegal byte count for I/O at line 10\r\n")
unfolding digits fault_text repeated_product place_of value_read item_read keywords signs letter_front digit_front quote_front sign_front front_of items_from tokens_from run verdict_of spec_in bracketed_in closed_code
size_before_name = refl

-- and so on
mode_before_name : left_open ((10, codes "OPEN 'D:A' AS FILE 1%, MODE 2%") ∷ []) [] ≡ (0, codes "?Illegal byte count for I/O at line 10\r\n")
unfolding digits fault_text repeated_product place_of value_read item_read keywords signs letter_front digit_front quote_front sign_front front_of items_from tokens_from run verdict_of spec_in bracketed_in closed_code
mode_before_name = refl

-- and so on
device_refused : left_open ((10, codes "OPEN 'D:A' AS FILE 1%, RECORDSIZE 1536%") ∷ []) [] ≡ (0, codes "?Device not available at line 10\r\n")
unfolding digits fault_text repeated_product place_of value_read item_read keywords signs letter_front digit_front quote_front sign_front front_of items_from tokens_from run verdict_of spec_in bracketed_in closed_code
device_refused = refl

-- and so on
name_refused : left_open ((10, codes "OPEN 'A.B.C' AS FILE 1%") ∷ []) [] ≡ (0, codes "?Illegal file name at line 10\r\n")
unfolding digits fault_text repeated_product place_of value_read item_read keywords signs letter_front digit_front quote_front sign_front front_of items_from tokens_from run verdict_of spec_in bracketed_in closed_code
name_refused = refl

-- 46, then 9, then 31
get_of_no_channel : left_open ((10, codes "GET #13%, RECORD -1%") ∷ []) [] ≡ (0, codes "?Illegal I/O channel at line 10\r\n")
unfolding digits fault_text repeated_product place_of value_read item_read keywords signs letter_front digit_front quote_front sign_front front_of items_from tokens_from run verdict_of spec_in bracketed_in closed_code
get_of_no_channel = refl

-- and so on
get_of_a_closed_channel : left_open ((10, codes "GET #2%, RECORD -1%") ∷ []) [] ≡ (0, codes "?I/O channel not open at line 10\r\n")
unfolding digits fault_text repeated_product place_of value_read item_read keywords signs letter_front digit_front quote_front sign_front front_of items_from tokens_from run verdict_of spec_in bracketed_in closed_code
get_of_a_closed_channel = refl

-- and so on
kill_of_no_name : left_open ((10, codes "KILL ''") ∷ []) [] ≡ (0, codes "?Illegal file name at line 10\r\n")
unfolding digits fault_text repeated_product place_of value_read item_read keywords signs letter_front digit_front quote_front sign_front front_of items_from tokens_from run verdict_of spec_in bracketed_in closed_code
kill_of_no_name = refl

-- a channel that is open is not opened again
opened_twice : left_open ((10, codes "OPEN 'A' AS FILE 1%") ∷ (20, codes "OPEN 'D:A' AS FILE 1%, MODE 2%") ∷ []) (Opened 2 true true ∷ []) ≡ (1, codes "?I/O channel already open at line 20\r\n")
unfolding digits fault_text repeated_product place_of value_read item_read keywords signs letter_front digit_front quote_front sign_front front_of items_from tokens_from run verdict_of spec_in bracketed_in closed_code
opened_twice = refl

-- KILL and NAME have the empty extension, and the code is that of the new name
killed_and_renamed : asked ((10, codes "KILL '[1,2]A<1>'") ∷ (20, codes "NAME 'A<1>' AS 'B.C<2>'") ∷ []) (Done ∷ Done ∷ []) ≡ (Kill (record { owner = account 1 2; stem = codes "A"; extension = [] }) ∷ Rename (own (codes "A")) (record { owner = account 100 5; stem = codes "B"; extension = codes "C" }) (Some 2) ∷ [])
unfolding digits fault_text repeated_product place_of value_read item_read keywords signs letter_front digit_front quote_front sign_front front_of items_from tokens_from run verdict_of spec_in bracketed_in closed_code
killed_and_renamed = refl

-- SLEEP and UNLOCK
slept_and_unlocked : asked ((10, codes "SLEEP 7% : SLEEP -7%") ∷ (20, codes "OPEN 'A' AS FILE 1%, MODE 1%") ∷ (30, codes "UNLOCK #1%") ∷ []) (Done ∷ Done ∷ Opened 2 true true ∷ Done ∷ Done ∷ []) ≡ (Sleep 7 ∷ Sleep 0 ∷ OpenFile 1 (own (codes "A")) Either true None ∷ Unlock 1 ∷ CloseFile 1 ∷ [])
unfolding digits fault_text repeated_product place_of value_read item_read keywords signs letter_front digit_front quote_front sign_front front_of items_from tokens_from run verdict_of spec_in bracketed_in closed_code
slept_and_unlocked = refl

-- a record of two blocks is requested as a record
record_of_two_blocks : asked ((10, codes "OPEN 'A' AS FILE 1%, RECORDSIZE 1024%") ∷ (20, codes "GET #1% : GET #1%") ∷ []) (Opened 2 true true ∷ Record (zeros ∷ zeros ∷ []) ∷ Failed 11 ∷ []) ≡ (OpenFile 1 (own (codes "A")) Either false None ∷ GetRecord 1 1 2 ∷ GetRecord 1 3 2 ∷ [])
unfolding digits fault_text repeated_product place_of value_read item_read keywords signs letter_front digit_front quote_front sign_front front_of items_from tokens_from run verdict_of spec_in bracketed_in closed_code
record_of_two_blocks = refl

-- in a function too, in the middle of an expression
get_in_a_function : asked ((10, codes "DEF FNA%(I%)") ∷ (20, codes "GET #I%, RECORD 7%") ∷ (30, codes "FNEND") ∷ (40, codes "OPEN 'A' AS FILE 1% : PUT #1% + FNA%(1%)") ∷ []) (Opened 2 true true ∷ Block zeros ∷ Done ∷ Done ∷ []) ≡ (OpenFile 1 (own (codes "A")) Either false None ∷ Get 1 7 ∷ Put 1 8 zeros ∷ CloseFile 1 ∷ [])
unfolding digits fault_text repeated_product place_of value_read item_read keywords signs letter_front digit_front quote_front sign_front front_of items_from tokens_from run verdict_of spec_in bracketed_in closed_code
get_in_a_function = refl

-- the job's calls are used up
expired_at_get : left_open ((10, codes "OPEN 'A' AS FILE 1% : GET #1%") ∷ []) (Opened 2 true true ∷ Expired ∷ []) ≡ (1, codes "?Job expired\r\n")
unfolding digits fault_text repeated_product place_of value_read item_read keywords signs letter_front digit_front quote_front sign_front front_of items_from tokens_from run verdict_of spec_in bracketed_in closed_code
expired_at_get = refl
