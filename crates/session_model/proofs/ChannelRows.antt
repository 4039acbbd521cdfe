-- Examples of fields, text on channels, arrays in files, PRINT USING and SYS.
use Rattle.std.proofs.Common.{◌≡◌, ◌++◌, true, false, [], ◌∷◌, refl}
use Rattle.std.specs.Prelude.{codes, replicate, None}
use Rattle.std.specs.Fmt.{digits}
use Rattle.basic_values.specs.Arithmetic.{repeated_product}
use Rattle.basic_values.specs.Messages.{fault_text}
use Rattle.basic_strings.specs.Places.{place_of}
use Rattle.basic_strings.specs.Readings.{value_read, item_read}
use Rattle.basic_tree.specs.Words.{keywords, signs}
use Rattle.basic_tree.specs.Tokens.{letter_front, digit_front, quote_front, sign_front, front_of, items_from, tokens_from}
use Rattle.grammar_machine.specs.MachineRun.{run}
use Rattle.grammar_machine.specs.MachineJudge.{verdict_of}
use Rattle.channels.specs.TextIn.{whole_line}
use Rattle.sys_calls.specs.CallFronts.{call_of, monitor_call_of, message_call_of}
use Rattle.print_using.specs.FormatFronts.{front_by}
use Rattle.file_names.specs.SpecFronts.{spec_in, bracketed_in, closed_code}
use Rattle.monitor_calls.specs.declared.files.OpenKind.TheVariants.{Either, Output}
use Rattle.monitor_calls.specs.declared.calls.Request.TheVariants.{OpenFile, CloseFile, Get, Put}
use Rattle.monitor_calls.specs.declared.calls.Reply.TheVariants.{Done, Opened, Block, Failed}
use Rattle.session_model.proofs.StatementRows.{asked, left_open, own}
use Rattle.session_model.proofs.ProgramRows.{shows}

-- two FIELDs share the buffer
fields_share_the_buffer : left_open ((10, codes "OPEN 'A' AS FILE 1%") ∷ (20, codes "FIELD #1%,10% AS A$ : FIELD #1%,4% AS B$,6% AS C$") ∷ (30, codes "LSET A$='ABCDEFGHIJKL' : PRINT A$;'/';B$;'/';C$") ∷ (40, codes "RSET A$='ABCDEFGHIJKL' : PRINT A$") ∷ (50, codes "RSET B$='X' : PRINT B$") ∷ []) (Opened 0 true true ∷ Done ∷ [])
    ≡ (0, codes "ABCDEFGHIJ/ABCD/EFGHIJ\r\nCDEFGHIJKL\r\n   X\r\n")
unfolding digits fault_text repeated_product place_of value_read item_read keywords signs letter_front digit_front quote_front sign_front front_of items_from tokens_from run verdict_of spec_in bracketed_in closed_code
fields_share_the_buffer = refl

-- a part that overlaps the one it is moved onto
parts_move_onto_each_other : left_open ((10, codes "OPEN 'A' AS FILE 1%") ∷ (20, codes "FIELD #1%,10% AS A$ : FIELD #1%,4% AS B$,6% AS C$") ∷ (30, codes "LSET A$='ABCDEFGHIJ' : LSET C$=A$ : PRINT A$") ∷ (40, codes "RSET B$=C$ : PRINT A$") ∷ []) (Opened 0 true true ∷ Done ∷ [])
    ≡ (0, codes "ABCDABCDEF\r\nCDEFABCDEF\r\n")
unfolding digits fault_text repeated_product place_of value_read item_read keywords signs letter_front digit_front quote_front sign_front front_of items_from tokens_from run verdict_of spec_in bracketed_in closed_code
parts_move_onto_each_other = refl

-- a width too many binds nothing
field_of_513 : left_open ((10, codes "OPEN 'A' AS FILE 1%") ∷ (20, codes "FIELD #1%,3% AS A$ : LSET A$='ABC'") ∷ (30, codes "ON ERROR GOTO 60") ∷ (40, codes "FIELD #1%,512% AS A$,1% AS B$") ∷ (50, codes "STOP") ∷ (60, codes "PRINT ERR;A$") ∷ []) (Opened 0 true true ∷ Done ∷ [])
    ≡ (0, codes " 63 ABC\r\n")
unfolding digits fault_text repeated_product place_of value_read item_read keywords signs letter_front digit_front quote_front sign_front front_of items_from tokens_from run verdict_of spec_in bracketed_in closed_code
field_of_513 = refl

-- an own string keeps its length, and a variable that was not stored stays so
own_texts_keep_their_length : shows ((10, codes "A$='12345' : LSET A$='AB' : PRINT A$;'/'") ∷ (20, codes "RSET A$='ABCDEFG' : PRINT A$") ∷ (30, codes "LSET B$='X' : PRINT LEN(B$)") ∷ []) []
    ≡ codes "AB   /\r\nCDEFG\r\n 0 \r\n"
unfolding digits fault_text repeated_product place_of value_read item_read keywords signs letter_front digit_front quote_front sign_front front_of items_from tokens_from run verdict_of spec_in bracketed_in closed_code
own_texts_keep_their_length = refl

-- what PRINT # collects is written with zeros after it
text_is_put_at_close : asked ((10, codes "OPEN 'A' FOR OUTPUT AS FILE 1%") ∷ (20, codes "PRINT #1%,'AB'") ∷ (30, codes "CLOSE 1%") ∷ []) (Opened 0 true true ∷ Done ∷ Done ∷ [])
    ≡ (OpenFile 1 (own (codes "A")) Output false None ∷ Put 1 1 (codes "AB\r\n" ++ replicate 508 0) ∷ CloseFile 1 ∷ [])
unfolding digits fault_text repeated_product place_of value_read item_read keywords signs letter_front digit_front quote_front sign_front front_of items_from tokens_from run verdict_of spec_in bracketed_in closed_code
text_is_put_at_close = refl

-- and is read as lines
lines_of_a_channel : left_open ((10, codes "OPEN 'A' FOR INPUT AS FILE 1%") ∷ (20, codes "INPUT #1%,A%,B$ : PRINT A%;B$") ∷ (30, codes "INPUT LINE #1%,A$ : PRINT LEN(A$)") ∷ (40, codes "INPUT LINE #1%,A$") ∷ []) (Opened 1 true true ∷ Block (codes "7,'A,B'\r\nAB\r\n" ++ replicate 499 0) ∷ Failed 11 ∷ [])
    ≡ (1, codes " 7 A,B\r\n 4 \r\n?End of file on device at line 40\r\n")
unfolding digits fault_text repeated_product place_of value_read item_read keywords signs letter_front digit_front quote_front sign_front front_of items_from tokens_from run verdict_of spec_in bracketed_in closed_code whole_line
lines_of_a_channel = refl

-- channel 0 is the terminal
channel_of_the_terminal : shows ((10, codes "PRINT #0%,'AB';TAB(4%);'C','D';POS(0%)") ∷ (20, codes "INPUT #0%,A% : PRINT #0%,A%+1%") ∷ []) (codes "41" ∷ [])
    ≡ codes "AB  C         D 15 \r\n? 41\r\n 42 \r\n"
unfolding digits fault_text repeated_product place_of value_read item_read keywords signs letter_front digit_front quote_front sign_front front_of items_from tokens_from run verdict_of spec_in bracketed_in closed_code
channel_of_the_terminal = refl

-- a channel is tested before the items
channel_before_items : left_open ((10, codes "PRINT #13%,1%/0%") ∷ []) []
    ≡ (0, codes "?Illegal I/O channel at line 10\r\n")
unfolding digits fault_text repeated_product place_of value_read item_read keywords signs letter_front digit_front quote_front sign_front front_of items_from tokens_from run verdict_of spec_in bracketed_in closed_code
channel_before_items = refl

-- an element that is written is in its block, the low byte first
numbers_in_a_file : asked ((10, codes "DIM #1%,A%(300%)") ∷ (20, codes "OPEN 'A' AS FILE 1%") ∷ (30, codes "A%(256%)=7%") ∷ (40, codes "CLOSE 1%") ∷ []) (Opened 0 true true ∷ Failed 11 ∷ Done ∷ Done ∷ [])
    ≡ (OpenFile 1 (own (codes "A")) Either false None ∷ Get 1 2 ∷ Put 1 2 (7 ∷ replicate 511 0) ∷ CloseFile 1 ∷ [])
unfolding digits fault_text repeated_product place_of value_read item_read keywords signs letter_front digit_front quote_front sign_front front_of items_from tokens_from run verdict_of spec_in bracketed_in closed_code
numbers_in_a_file = refl

-- the second array of a statement begins after the first, at a multiple of its size
second_array : asked ((10, codes "DIM #1%,A%(1%),B$(3%)") ∷ (20, codes "OPEN 'A' AS FILE 1%") ∷ (30, codes "B$(0%)='XY' : A%(1%)=258%") ∷ (40, codes "CLOSE 1%") ∷ []) (Opened 0 true true ∷ Failed 11 ∷ Done ∷ Done ∷ [])
    ≡ (OpenFile 1 (own (codes "A")) Either false None ∷ Get 1 1 ∷ Put 1 1 (0 ∷ 0 ∷ 2 ∷ 1 ∷ replicate 12 0 ++ 88 ∷ 89 ∷ replicate 494 0) ∷ CloseFile 1 ∷ [])
unfolding digits fault_text repeated_product place_of value_read item_read keywords signs letter_front digit_front quote_front sign_front front_of items_from tokens_from run verdict_of spec_in bracketed_in closed_code
second_array = refl

-- an element in the middle of an expression makes its request there
element_in_an_expression : left_open ((10, codes "DIM #1%,A%(3%)") ∷ (20, codes "OPEN 'A' AS FILE 1%") ∷ (30, codes "PRINT A%(0%)+A%(1%)") ∷ (40, codes "PRINT A%(4%)") ∷ []) (Opened 1 true true ∷ Block (1 ∷ 0 ∷ 2 ∷ 0 ∷ replicate 508 0) ∷ [])
    ≡ (1, codes " 3 \r\n?Subscript out of range at line 40\r\n")
unfolding digits fault_text repeated_product place_of value_read item_read keywords signs letter_front digit_front quote_front sign_front front_of items_from tokens_from run verdict_of spec_in bracketed_in closed_code
element_in_an_expression = refl

-- words of an error, and core common
texts_of_sys : shows ((10, codes "PRINT SYS(CHR$(6%)+CHR$(9%)+CHR$(19%))") ∷ (20, codes "A$=SYS(CHR$(8%)+'HI') : PRINT SYS(CHR$(7%))") ∷ (30, codes "A$=SYS(CHR$(99%))") ∷ []) []
    ≡ codes "Disk block is interlocked\r\nHI\r\n?Illegal SYS() usage at line 30\r\n"
unfolding digits fault_text repeated_product place_of value_read item_read keywords signs letter_front digit_front quote_front sign_front front_of items_from tokens_from run verdict_of spec_in bracketed_in closed_code call_of monitor_call_of message_call_of
texts_of_sys = refl

-- PRINT USING writes once
used_formats : shows ((10, codes "PRINT USING '###-',-42%") ∷ (20, codes "PRINT USING '**##',7% : PRINT USING '##',123%") ∷ (30, codes "PRINT USING '##','A'") ∷ []) []
    ≡ codes " 42-\r\n***7\r\n%123\r\n?Data format error at line 30\r\n"
unfolding digits fault_text repeated_product place_of value_read item_read keywords signs letter_front digit_front quote_front sign_front front_of items_from tokens_from run verdict_of spec_in bracketed_in closed_code front_by
used_formats = refl
