-- Examples of CHAIN and of the closing at RUN: what a CHAIN that fails leaves, at which line the
-- next program begins, and in which state.
use Rattle.std.proofs.Common.{◌≡◌, List, [], ◌∷◌, refl}
use Rattle.std.specs.Prelude.{ℕ, codes, ◌++◌, true, false, None}
use Rattle.std.specs.Fmt.{digits}
use Rattle.basic_values.specs.Arithmetic.{repeated_product}
use Rattle.basic_values.specs.Messages.{fault_text}
use Rattle.basic_strings.specs.Places.{place_of}
use Rattle.basic_strings.specs.Readings.{value_read, item_read}
use Rattle.basic_tree.specs.Words.{keywords, signs}
use Rattle.basic_tree.specs.Tokens.{letter_front, digit_front, quote_front, sign_front, front_of, items_from, tokens_from}
use Rattle.grammar_machine.specs.MachineRun.{run}
use Rattle.grammar_machine.specs.MachineJudge.{verdict_of, judge_of}
use Rattle.sys_calls.specs.CallFronts.{call_of, monitor_call_of, message_call_of}
use Rattle.file_names.specs.SpecFronts.{spec_in, bracketed_in, closed_code}
use Rattle.monitor_calls.specs.declared.files.OpenKind.TheVariants.{Either, Input}
use Rattle.monitor_calls.specs.declared.calls.Request.{Request}
use Rattle.monitor_calls.specs.declared.calls.Request.TheVariants.{Logout, OpenFile, CloseFile, Get}
use Rattle.monitor_calls.specs.declared.calls.Reply.{Reply}
use Rattle.monitor_calls.specs.declared.calls.Reply.TheVariants.{Done, Opened, Block, Failed}
use Rattle.session_model.specs.ProgramFiles.{first_page}
use Rattle.job_model.specs.Play.{Finished}
use Rattle.monitor_calls.specs.Typing.{all_typed}
use Rattle.session_model.specs.Talk.{talk}
use Rattle.session_model.proofs.FileRows.{demo, own}
use Rattle.session_model.proofs.StatementRows as statement

-- after the login these lines make these requests with these replies, and show that
abbrev asks : List (List ℕ) → List Reply → List Request → List ℕ → Type 0
asks lines replies requests shown =
    talk judge_of (all_typed (codes "HELLO 100,5;DEMO" ∷ lines)) (Done ∷ replies)
    ≡ (demo ∷ requests, Finished (codes "HELLO 100,5;DEMO\r\nReady\r\n" ++ shown ++ codes "Bye\r\n"))

-- a program of two lines
abbrev the_page : List ℕ
the_page = first_page (codes "10 PRINT 1%\r\n20 PRINT 2%\r\n")

-- a CHAIN that fails has closed nothing
refused_chain : asks (codes "OPEN 'D' AS FILE 3%" ∷ codes "CHAIN 'B'" ∷ codes "CLOSE 3%" ∷ []) (Opened 0 true true ∷ Failed 5 ∷ Done ∷ Done ∷ [])
    (OpenFile 3 (statement.own (codes "D")) Either false None ∷ OpenFile 0 (own (codes "B")) Input false None ∷ CloseFile 3 ∷ Logout ∷ [])
    (codes "OPEN 'D' AS FILE 3%\r\nReady\r\nCHAIN 'B'\r\n?Can't find file or account\r\nReady\r\nCLOSE 3%\r\nReady\r\n")
unfolding digits fault_text repeated_product place_of value_read item_read keywords signs letter_front digit_front quote_front sign_front front_of items_from tokens_from run verdict_of spec_in bracketed_in closed_code
refused_chain = refl

-- one that succeeds has closed all channels
closing_chain : asks (codes "OPEN 'D' AS FILE 3%" ∷ codes "CHAIN 'B'" ∷ []) (Opened 0 true true ∷ Opened 1 true true ∷ Block the_page ∷ Done ∷ Done ∷ Done ∷ [])
    (OpenFile 3 (statement.own (codes "D")) Either false None ∷ OpenFile 0 (own (codes "B")) Input false None ∷ Get 0 1 ∷ CloseFile 0 ∷ CloseFile 3 ∷ Logout ∷ [])
    (codes "OPEN 'D' AS FILE 3%\r\nReady\r\nCHAIN 'B'\r\n 1 \r\n 2 \r\nReady\r\n")
unfolding digits fault_text repeated_product place_of value_read item_read keywords signs letter_front digit_front quote_front sign_front front_of items_from tokens_from run verdict_of spec_in bracketed_in closed_code
closing_chain = refl

-- the given line is one of the new program, whatever lines the old one has
wanted_line : asks (codes "15 STOP" ∷ codes "CHAIN 'B' LINE 20%" ∷ codes "15 STOP" ∷ codes "CHAIN 'B' LINE -1%" ∷ codes "25 STOP" ∷ codes "CHAIN 'B' 25%" ∷ [])
    (Opened 1 true true ∷ Block the_page ∷ Done ∷ Opened 1 true true ∷ Block the_page ∷ Done ∷ Opened 1 true true ∷ Block the_page ∷ Done ∷ Done ∷ [])
    (OpenFile 0 (own (codes "B")) Input false None ∷ Get 0 1 ∷ CloseFile 0 ∷ OpenFile 0 (own (codes "B")) Input false None ∷ Get 0 1 ∷ CloseFile 0 ∷ OpenFile 0 (own (codes "B")) Input false None ∷ Get 0 1 ∷ CloseFile 0 ∷ Logout ∷ [])
    (codes "15 STOP\r\nCHAIN 'B' LINE 20%\r\n 2 \r\nReady\r\n15 STOP\r\nCHAIN 'B' LINE -1%\r\n 1 \r\n 2 \r\nReady\r\n25 STOP\r\nCHAIN 'B' 25%\r\n?Undefined line at line 25\r\nReady\r\n")
unfolding digits fault_text repeated_product place_of value_read item_read keywords signs letter_front digit_front quote_front sign_front front_of items_from tokens_from run verdict_of spec_in bracketed_in closed_code
wanted_line = refl

-- the next program finds core common, and no variable
kept_by_chain : asks (codes "A%=1% : X$=SYS(CHR$(8%)+'HI') : CHAIN 'B'" ∷ []) (Opened 1 true true ∷ Block (first_page (codes "10 PRINT SYS(CHR$(7%));A%\r\n")) ∷ Done ∷ Done ∷ [])
    (OpenFile 0 (own (codes "B")) Input false None ∷ Get 0 1 ∷ CloseFile 0 ∷ Logout ∷ [])
    (codes "A%=1% : X$=SYS(CHR$(8%)+'HI') : CHAIN 'B'\r\nHI 0 \r\nReady\r\n")
unfolding digits fault_text repeated_product place_of value_read item_read keywords signs letter_front digit_front quote_front sign_front front_of items_from tokens_from run verdict_of spec_in bracketed_in closed_code call_of monitor_call_of message_call_of
kept_by_chain = refl

-- RUN closes all channels before the program begins
closed_at_run : asks (codes "OPEN 'D' AS FILE 3%" ∷ codes "10 GET #3%" ∷ codes "RUNNH" ∷ []) (Opened 1 true true ∷ Done ∷ Done ∷ [])
    (OpenFile 3 (statement.own (codes "D")) Either false None ∷ CloseFile 3 ∷ Logout ∷ [])
    (codes "OPEN 'D' AS FILE 3%\r\nReady\r\n10 GET #3%\r\nRUNNH\r\n?I/O channel not open at line 10\r\nReady\r\n")
unfolding digits fault_text repeated_product place_of value_read item_read keywords signs letter_front digit_front quote_front sign_front front_of items_from tokens_from run verdict_of spec_in bracketed_in closed_code
closed_at_run = refl

-- REPORTS AFTER A CHAIN: each begins at the start of a line

-- the program is rejected, if a program chains to it
rejected_chain : asks (codes "10 PRINT 'Z'; : CHAIN 'B'" ∷ codes "RUNNH" ∷ []) (Opened 1 true true ∷ Block (first_page (codes "10 GOTO 20\r\n")) ∷ Done ∷ Done ∷ [])
    (OpenFile 0 (own (codes "B")) Input false None ∷ Get 0 1 ∷ CloseFile 0 ∷ Logout ∷ [])
    (codes "10 PRINT 'Z'; : CHAIN 'B'\r\nRUNNH\r\nZ\r\n?Undefined line at line 10\r\nReady\r\n")
unfolding digits fault_text repeated_product place_of value_read item_read keywords signs letter_front digit_front quote_front sign_front front_of items_from tokens_from run verdict_of spec_in bracketed_in closed_code
rejected_chain = refl

-- it does not have a line of that number
chain_to_no_line : asks (codes "10 PRINT 'Z'; : CHAIN 'B' 77%" ∷ codes "RUNNH" ∷ []) (Opened 1 true true ∷ Block the_page ∷ Done ∷ Done ∷ [])
    (OpenFile 0 (own (codes "B")) Input false None ∷ Get 0 1 ∷ CloseFile 0 ∷ Logout ∷ [])
    (codes "10 PRINT 'Z'; : CHAIN 'B' 77%\r\nRUNNH\r\nZ\r\n?Undefined line at line 77\r\nReady\r\n")
unfolding digits fault_text repeated_product place_of value_read item_read keywords signs letter_front digit_front quote_front sign_front front_of items_from tokens_from run verdict_of spec_in bracketed_in closed_code
chain_to_no_line = refl

-- an immediate line chains to them
chains_of_a_line : asks (codes "PRINT 'Z'; : CHAIN 'B'" ∷ codes "PRINT 'Y'; : CHAIN 'C' 77%" ∷ []) (Opened 1 true true ∷ Block (first_page (codes "10 GOTO 20\r\n")) ∷ Done ∷ Opened 1 true true ∷ Block the_page ∷ Done ∷ Done ∷ [])
    (OpenFile 0 (own (codes "B")) Input false None ∷ Get 0 1 ∷ CloseFile 0 ∷ OpenFile 0 (own (codes "C")) Input false None ∷ Get 0 1 ∷ CloseFile 0 ∷ Logout ∷ [])
    (codes "PRINT 'Z'; : CHAIN 'B'\r\nZ\r\n?Undefined line at line 10\r\nReady\r\nPRINT 'Y'; : CHAIN 'C' 77%\r\nY\r\n?Undefined line at line 77\r\nReady\r\n")
unfolding digits fault_text repeated_product place_of value_read item_read keywords signs letter_front digit_front quote_front sign_front front_of items_from tokens_from run verdict_of spec_in bracketed_in closed_code
chains_of_a_line = refl
