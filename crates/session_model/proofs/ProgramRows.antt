-- Examples of programs and immediate lines, from their bytes to the screen.
use Rattle.std.proofs.Common.{◌≡◌, ℕ, suc, List, [], ◌∷◌, refl}
use Rattle.std.specs.Prelude.{codes, fold, map, replicate}
use Rattle.std.specs.Fmt.{digits}
use Rattle.basic_values.specs.Arithmetic.{repeated_product}
use Rattle.basic_values.specs.Messages.{fault_text}
use Rattle.basic_strings.specs.Places.{place_of}
use Rattle.basic_strings.specs.Readings.{value_read, item_read}
use Rattle.basic_tree.specs.Words.{keywords, signs}
use Rattle.basic_tree.specs.Tokens.{letter_front, digit_front, quote_front, sign_front, front_of, items_from, tokens_from}
use Rattle.grammar_machine.specs.MachineRun.{run}
use Rattle.grammar_machine.specs.MachineJudge.{verdict_of, judge_of}
use Rattle.basic_tree.specs.SpellingStatements.{line_statements}
use Rattle.basic_tree.specs.LineVerdicts.{Verdict, HasTree, RefusedFor}
use Rattle.basic_tree.specs.Trees.{StatementTree}
use Rattle.channels.specs.Files.{closed_channel}
use Rattle.error_trap.specs.Trapping.{untouched}
use Rattle.job_memory.specs.Memory.{empty}
use Rattle.job_model.specs.Act.{Act, Gives, Breaks, Asks, Types, Takes, Left}
use Rattle.monitor_calls.specs.declared.calls.Request.TheVariants.{Tick}
use Rattle.monitor_calls.specs.declared.calls.Reply.TheVariants.{Expired}
use Rattle.job_model.specs.Play.{at_start, End, Gave, Broke, Finished, Waits, Listens, Spent, Outcome, play}
use Rattle.monitor_calls.specs.Typing.{Over, all_typed}
use Rattle.program_model.specs.Program.{Program, Position}
use Rattle.program_model.specs.Job.{no_destination, Job, Leaving}
use Rattle.program_model.specs.Running.{Coming, no_home, runs_whole, runs_line, continues}
use Rattle.program_model.specs.Reports.{ended_screen}

abbrev statements_judged : Verdict → List StatementTree
statements_judged (HasTree line) = line_statements line
statements_judged (RefusedFor cause) = []

-- the statements of a line's bytes
abbrev pub statements_read : List ℕ → List StatementTree
statements_read bytes = statements_judged (judge_of bytes)

abbrev pub program_read : List (ℕ × List ℕ) → Program
program_read lines = map (λ line. record { number = line.0; statements = statements_read line.1 }) lines

-- a job that has run nothing
abbrev pub new_job : Job Position
new_job = record {
  account = record { project = 100; programmer = 5 };
  memory = empty;
  channels = replicate 12 closed_channel;
  recount = 0;
  common = [];
  buffers = replicate 12 (replicate 512 0);
  screen = [];
  trap = untouched;
  returns = [];
  limits = [];
  item = 0;
  line = 0;
  home = no_home;
  frames = [];
  destination = no_destination;
}

abbrev shown_at : Outcome (End (Leaving Position) (Job Position) Coming) → List ℕ
shown_at (Finished (Broke why j)) = ended_screen why j
shown_at (Finished (Gave coming j)) = codes "is not over"
shown_at Waits = codes "waits"
shown_at Listens = codes "listens"
shown_at Spent = codes "is spent"

-- what a program shows
abbrev pub shows : List (ℕ × List ℕ) → List (List ℕ) → List ℕ
shows lines keys = shown_at (play (runs_whole (program_read lines) 500 new_job) at_start 900 (all_typed keys) []).1

-- what an immediate line shows
abbrev pub shows_now : List ℕ → List ℕ
shows_now line = shown_at (play (runs_line (statements_read line) 500 new_job) at_start 900 Over []).1

-- the job where it ended, or as it was
abbrev job_at : Job Position → Outcome (End (Leaving Position) (Job Position) Coming) → Job Position
job_at before (Finished (Broke why j)) = record j { screen = ended_screen why j }
job_at before (Finished (Gave coming j)) = j
job_at before Waits = before
job_at before Listens = before
job_at before Spent = before

-- an immediate line on a job
abbrev line_done : Job Position → List ℕ → Job Position
line_done j line = job_at j (play (runs_line (statements_read line) 500 j) at_start 900 Over []).1

abbrev shows_lines : List (List ℕ) → List ℕ
shows_lines lines = (fold line_done new_job lines).screen

sums_wrap : shows_now (codes "PRINT 32767%+1%; -7%/2%") ≡ codes "-32768 -3 \r\n"
unfolding digits fault_text repeated_product place_of value_read item_read keywords signs letter_front digit_front quote_front sign_front front_of items_from tokens_from run verdict_of
sums_wrap = refl

texts_compare : shows_now (codes "PRINT 'AB'='AB  '; 'AB'=='AB  '") ≡ codes "-1  0 \r\n"
unfolding digits fault_text repeated_product place_of value_read item_read keywords signs letter_front digit_front quote_front sign_front front_of items_from tokens_from run verdict_of
texts_compare = refl

pairs_of_bytes : shows_now (codes "PRINT ASCII(CVT%$(258%)); CVT$%(CVT%$(258%)); SWAP%(258%)") ≡ codes " 1  258  513 \r\n"
unfolding digits fault_text repeated_product place_of value_read item_read keywords signs letter_front digit_front quote_front sign_front front_of items_from tokens_from run verdict_of
pairs_of_bytes = refl

cuts_of_texts : shows_now (codes "PRINT LEFT('ABCDE',2%);MID('ABCDE',2%,3%);RIGHT('ABCDE',4%)") ≡ codes "ABBCDDE\r\n"
unfolding digits fault_text repeated_product place_of value_read item_read keywords signs letter_front digit_front quote_front sign_front front_of items_from tokens_from run verdict_of
cuts_of_texts = refl

zones : shows_now (codes "PRINT 1%,2%") ≡ codes " 1             2 \r\n"
unfolding digits fault_text repeated_product place_of value_read item_read keywords signs letter_front digit_front quote_front sign_front front_of items_from tokens_from run verdict_of
zones = refl

columns : shows_now (codes "PRINT 'AB';TAB(5%);'C';TAB(2%);'D'") ≡ codes "AB   CD\r\n"
unfolding digits fault_text repeated_product place_of value_read item_read keywords signs letter_front digit_front quote_front sign_front front_of items_from tokens_from run verdict_of
columns = refl

-- the rightmost modifier is the outermost: the second time its IF finds I% at 3
modifiers_from_the_right : shows_lines (codes "PRINT I%; FOR I%=1% TO 3% IF I%=0%" ∷ codes "PRINT I%; FOR I%=1% TO 3% IF I%=0%" ∷ []) ≡ codes " 1  2  3 "
unfolding digits fault_text repeated_product place_of value_read item_read keywords signs letter_front digit_front quote_front sign_front front_of items_from tokens_from run verdict_of
modifiers_from_the_right = refl

handler_and_resume : shows ((10, codes "ON ERROR GOTO 100") ∷ (20, codes "PRINT 1%; : PRINT 6%/D%; : PRINT 3%") ∷ (30, codes "END") ∷ (100, codes "D%=2% : RESUME") ∷ []) ([])
    ≡ codes " 1  3  3 \r\n"
unfolding digits fault_text repeated_product place_of value_read item_read keywords signs letter_front digit_front quote_front sign_front front_of items_from tokens_from run verdict_of
handler_and_resume = refl

-- the statement runs again as a whole, and its first item is written twice
resume_as_a_whole : shows ((10, codes "ON ERROR GOTO 100") ∷ (20, codes "PRINT 1%; 6%/D%; 2%") ∷ (30, codes "END") ∷ (100, codes "D%=2% : RESUME") ∷ []) ([])
    ≡ codes " 1  1  3  2 \r\n"
unfolding digits fault_text repeated_product place_of value_read item_read keywords signs letter_front digit_front quote_front sign_front front_of items_from tokens_from run verdict_of
resume_as_a_whole = refl

factorial : shows ((10, codes "DEF FNF%(N%)") ∷ (20, codes "IF N%<2% THEN FNF%=1% ELSE FNF%=N%*FNF%(N%-1%)") ∷ (30, codes "FNEND") ∷ (40, codes "PRINT FNF%(7%)") ∷ []) ([])
    ≡ codes " 5040 \r\n"
unfolding digits fault_text repeated_product place_of value_read item_read keywords signs letter_front digit_front quote_front sign_front front_of items_from tokens_from run verdict_of
factorial = refl

forty_calls_deep : shows ((10, codes "DEF FNF%(N%)") ∷ (20, codes "IF N%<2% THEN FNF%=1% ELSE FNF%=N%*FNF%(N%-1%)") ∷ (30, codes "FNEND") ∷ (40, codes "PRINT FNF%(40%)") ∷ []) ([])
    ≡ codes "?Nested too deep at line 20\r\n"
unfolding digits fault_text repeated_product place_of value_read item_read keywords signs letter_front digit_front quote_front sign_front front_of items_from tokens_from run verdict_of
forty_calls_deep = refl

a_for_without_a_turn : shows ((10, codes "FOR I%=3% TO 1%") ∷ (20, codes "NEXT I%") ∷ (30, codes "PRINT I%") ∷ []) ([])
    ≡ codes " 3 \r\n"
unfolding digits fault_text repeated_product place_of value_read item_read keywords signs letter_front digit_front quote_front sign_front front_of items_from tokens_from run verdict_of
a_for_without_a_turn = refl

division_by_0 : shows ((10, codes "PRINT 1%/0%") ∷ []) ([])
    ≡ codes "?Division by 0 at line 10\r\n"
unfolding digits fault_text repeated_product place_of value_read item_read keywords signs letter_front digit_front quote_front sign_front front_of items_from tokens_from run verdict_of
division_by_0 = refl

nested_fors : shows ((10, codes "FOR I%=1% TO 2%") ∷ (20, codes "FOR J%=3% TO 1% STEP -2%") ∷ (30, codes "PRINT I%;J%;") ∷ (40, codes "NEXT J% : NEXT I%") ∷ (50, codes "PRINT I%;J%") ∷ []) ([])
    ≡ codes " 1  3  1  1  2  3  2  1  2  1 \r\n"
unfolding digits fault_text repeated_product place_of value_read item_read keywords signs letter_front digit_front quote_front sign_front front_of items_from tokens_from run verdict_of
nested_fors = refl

gosub_inside_modifiers : shows ((10, codes "GOSUB 100 FOR I%=1% TO 3%") ∷ (20, codes "PRINT I%") ∷ (30, codes "END") ∷ (100, codes "PRINT I%*I%; : RETURN") ∷ []) ([])
    ≡ codes " 1  4  9  3 \r\n"
unfolding digits fault_text repeated_product place_of value_read item_read keywords signs letter_front digit_front quote_front sign_front front_of items_from tokens_from run verdict_of
gosub_inside_modifiers = refl

return_without_gosub : shows ((10, codes "PRINT 'A';") ∷ (20, codes "RETURN") ∷ []) ([])
    ≡ codes "A\r\n?RETURN without GOSUB at line 20\r\n"
unfolding digits fault_text repeated_product place_of value_read item_read keywords signs letter_front digit_front quote_front sign_front front_of items_from tokens_from run verdict_of
return_without_gosub = refl

error_in_the_handler : shows ((10, codes "ON ERROR GOTO 30") ∷ (20, codes "PRINT 1%/0%") ∷ (30, codes "PRINT 2%/0%") ∷ []) ([])
    ≡ codes "?Division by 0 at line 30\r\n"
unfolding digits fault_text repeated_product place_of value_read item_read keywords signs letter_front digit_front quote_front sign_front front_of items_from tokens_from run verdict_of
error_in_the_handler = refl

no_handler_for_the_error : shows ((10, codes "ON ERROR GOTO 30") ∷ (20, codes "PRINT 1%/0%") ∷ (30, codes "ON ERROR GOTO 0") ∷ []) ([])
    ≡ codes "?Division by 0 at line 20\r\n"
unfolding digits fault_text repeated_product place_of value_read item_read keywords signs letter_front digit_front quote_front sign_front front_of items_from tokens_from run verdict_of
no_handler_for_the_error = refl

-- the line is that of the body, and the parameter is as it was
error_in_a_body : shows ((10, codes "DEF FNA%(X%)") ∷ (20, codes "FNA%=X%/0%") ∷ (30, codes "FNEND") ∷ (40, codes "ON ERROR GOTO 60") ∷ (50, codes "X%=7% : PRINT FNA%(1%)") ∷ (60, codes "PRINT ERR;ERL;X%") ∷ []) ([])
    ≡ codes " 61  20  7 \r\n"
unfolding digits fault_text repeated_product place_of value_read item_read keywords signs letter_front digit_front quote_front sign_front front_of items_from tokens_from run verdict_of
error_in_a_body = refl

end_of_keys : shows ((10, codes "ON ERROR GOTO 30") ∷ (20, codes "INPUT A%") ∷ (30, codes "PRINT ERR") ∷ []) ([])
    ≡ codes "?  11 \r\n"
unfolding digits fault_text repeated_product place_of value_read item_read keywords signs letter_front digit_front quote_front sign_front front_of items_from tokens_from run verdict_of
end_of_keys = refl

input_of_items : shows ((10, codes "INPUT 'N';A%,B$,C$") ∷ (20, codes "PRINT A%;B$;C$") ∷ []) (codes " -5% , 'a, b' ,c d " ∷ [])
    ≡ codes "N?  -5% , 'a, b' ,c d \r\n-5 a, bc d\r\n"
unfolding digits fault_text repeated_product place_of value_read item_read keywords signs letter_front digit_front quote_front sign_front front_of items_from tokens_from run verdict_of
input_of_items = refl

too_few_items : shows ((10, codes "ON ERROR GOTO 30") ∷ (20, codes "INPUT A%,B%") ∷ (30, codes "PRINT ERR;A%") ∷ []) (codes "1" ∷ [])
    ≡ codes "? 1\r\n 59  0 \r\n"
unfolding digits fault_text repeated_product place_of value_read item_read keywords signs letter_front digit_front quote_front sign_front front_of items_from tokens_from run verdict_of
too_few_items = refl

items_stored_one_by_one : shows ((10, codes "ON ERROR GOTO 30") ∷ (20, codes "INPUT A%,B%,C%") ∷ (30, codes "PRINT ERR;A%;B%;C%") ∷ []) (codes "1,40000,3" ∷ [])
    ≡ codes "? 1,40000,3\r\n 51  1  0  0 \r\n"
unfolding digits fault_text repeated_product place_of value_read item_read keywords signs letter_front digit_front quote_front sign_front front_of items_from tokens_from run verdict_of
items_stored_one_by_one = refl

whole_line_of_keys : shows ((10, codes "INPUT LINE A$") ∷ (20, codes "PRINT LEN(A$);A$;") ∷ []) (codes "a,b" ∷ [])
    ≡ codes "? a,b\r\n 5 a,b\r\n"
unfolding digits fault_text repeated_product place_of value_read item_read keywords signs letter_front digit_front quote_front sign_front front_of items_from tokens_from run verdict_of
whole_line_of_keys = refl

control_z : shows ((10, codes "INPUT A$") ∷ []) (codes "^Z" ∷ [])
    ≡ codes "? ^Z\r\n?End of file on device at line 10\r\n"
unfolding digits fault_text repeated_product place_of value_read item_read keywords signs letter_front digit_front quote_front sign_front front_of items_from tokens_from run verdict_of
control_z = refl

data_in_order : shows ((10, codes "DATA 1, 'x,y' ,z") ∷ (20, codes "READ A%,B$") ∷ (30, codes "READ C$ : PRINT A%;B$;C$ : RESTORE : READ C$ : PRINT C$ : READ A%") ∷ []) ([])
    ≡ codes " 1 x,yz\r\n1\r\n?Data format error at line 30\r\n"
unfolding digits fault_text repeated_product place_of value_read item_read keywords signs letter_front digit_front quote_front sign_front front_of items_from tokens_from run verdict_of
data_in_order = refl

-- DATA with nothing after it is one empty item, which is no number
out_of_data : shows ((10, codes "READ A%") ∷ (20, codes "DATA") ∷ []) ([])
    ≡ codes "?Data format error at line 10\r\n"
unfolding digits fault_text repeated_product place_of value_read item_read keywords signs letter_front digit_front quote_front sign_front front_of items_from tokens_from run verdict_of
out_of_data = refl

-- the item is taken before the subscript is tested
no_data : shows ((10, codes "READ A%(20%)") ∷ []) ([])
    ≡ codes "?Out of data at line 10\r\n"
unfolding digits fault_text repeated_product place_of value_read item_read keywords signs letter_front digit_front quote_front sign_front front_of items_from tokens_from run verdict_of
no_data = refl

lines_chosen : shows ((10, codes "FOR I%=1% TO 4%") ∷ (20, codes "ON I% GOSUB 100,200,100") ∷ (30, codes "NEXT I%") ∷ (100, codes "PRINT 'A'; : RETURN") ∷ (200, codes "PRINT 'B'; : RETURN") ∷ []) ([])
    ≡ codes "ABA\r\n?ON statement out of range at line 20\r\n"
unfolding digits fault_text repeated_product place_of value_read item_read keywords signs letter_front digit_front quote_front sign_front front_of items_from tokens_from run verdict_of
lines_chosen = refl

separator_ends_an_if : shows ((10, codes "IF 0% THEN PRINT 'A' : PRINT 'B'") ∷ (20, codes "IF 0% THEN 50 ELSE PRINT 'C'") ∷ (30, codes "IF 1% GOTO 50 ELSE PRINT 'D'") ∷ (40, codes "PRINT 'E'") ∷ (50, codes "PRINT 'F' UNLESS 0%") ∷ []) ([])
    ≡ codes "B\r\nC\r\nF\r\n"
unfolding digits fault_text repeated_product place_of value_read item_read keywords signs letter_front digit_front quote_front sign_front front_of items_from tokens_from run verdict_of
separator_ends_an_if = refl

a_line_without_statements : shows ((10, codes "GOTO 20") ∷ (20, codes "") ∷ (30, codes "PRINT 'A'") ∷ []) ([])
    ≡ codes "A\r\n"
unfolding digits fault_text repeated_product place_of value_read item_read keywords signs letter_front digit_front quote_front sign_front front_of items_from tokens_from run verdict_of
a_line_without_statements = refl

stop_tells_its_line : shows ((10, codes "PRINT 'A'; : STOP : PRINT 'B'") ∷ []) ([])
    ≡ codes "A\r\nStop at line 10\r\n"
unfolding digits fault_text repeated_product place_of value_read item_read keywords signs letter_front digit_front quote_front sign_front front_of items_from tokens_from run verdict_of
stop_tells_its_line = refl

while_and_until : shows ((10, codes "I%=I%+1% WHILE I%<3%") ∷ (20, codes "PRINT I%; : I%=I%-1% UNTIL I%<1% : PRINT I%") ∷ []) ([])
    ≡ codes " 3  0 \r\n"
unfolding digits fault_text repeated_product place_of value_read item_read keywords signs letter_front digit_front quote_front sign_front front_of items_from tokens_from run verdict_of
while_and_until = refl

elements : shows ((10, codes "DIM A%(2%,3%)") ∷ (20, codes "A%(2%,3%)=5% : PRINT A%(2%,3%);A%(0%,0%);B$(10%)") ∷ (30, codes "A%(3%,0%)=1%") ∷ []) ([])
    ≡ codes " 5  0 \r\n?Subscript out of range at line 30\r\n"
unfolding digits fault_text repeated_product place_of value_read item_read keywords signs letter_front digit_front quote_front sign_front front_of items_from tokens_from run verdict_of
elements = refl

-- subscripts are evaluated at each store
several_targets : shows ((10, codes "I%,A%(I%),J%=3% : PRINT I%;A%(3%);A%(0%);J%") ∷ []) ([])
    ≡ codes " 3  3  0  3 \r\n"
unfolding digits fault_text repeated_product place_of value_read item_read keywords signs letter_front digit_front quote_front sign_front front_of items_from tokens_from run verdict_of
several_targets = refl

functions_of_one_line : shows ((10, codes "DEF FNA%(X%,Y%)=X%*10%+Y%") ∷ (20, codes "DEF FNB$(A$)=A$+'!'") ∷ (30, codes "X%=7% : PRINT FNA%(1%,2%);FNB$('a');X%") ∷ []) ([])
    ≡ codes " 12 a! 7 \r\n"
unfolding digits fault_text repeated_product place_of value_read item_read keywords signs letter_front digit_front quote_front sign_front front_of items_from tokens_from run verdict_of
functions_of_one_line = refl

error_of_one_line : shows ((10, codes "DEF FNA%(X%)=1%/X%") ∷ (20, codes "PRINT 'A'; FNA%(0%)") ∷ []) ([])
    ≡ codes "A\r\n?Division by 0 at line 10\r\n"
unfolding digits fault_text repeated_product place_of value_read item_read keywords signs letter_front digit_front quote_front sign_front front_of items_from tokens_from run verdict_of
error_of_one_line = refl

no_trap_in_an_immediate_line : shows_lines (codes "PRINT 1%/0%" ∷ codes "PRINT ERR;ERL" ∷ []) ≡ codes "?Division by 0\r\n 0  0 \r\n"
unfolding digits fault_text repeated_product place_of value_read item_read keywords signs letter_front digit_front quote_front sign_front front_of items_from tokens_from run verdict_of
no_trap_in_an_immediate_line = refl

-- STOP AND CONT

-- CONT after a STOP
abbrev continued : Program → Outcome (End (Leaving Position) (Job Position) Coming) → List ℕ
continued program (Finished (Broke (Left stop) j)) =
    shown_at (play (continues program 500 stop (record j { screen = ended_screen (Left stop) j })) at_start 900 Over []).1
continued program outcome = codes "can't continue"

abbrev shows_with_cont : List (ℕ × List ℕ) → List ℕ
shows_with_cont lines =
    continued (program_read lines) (play (runs_whole (program_read lines) 500 new_job) at_start 900 Over []).1

goes_on_behind_a_stop : shows_with_cont ((10, codes "STOP") ∷ (20, codes "PRINT 2%") ∷ []) ≡ codes "Stop at line 10\r\n 2 \r\n"
unfolding digits fault_text repeated_product place_of value_read item_read keywords signs letter_front digit_front quote_front sign_front front_of items_from tokens_from run verdict_of
goes_on_behind_a_stop = refl

a_stop_among_modifiers : shows_with_cont ((10, codes "I%=I%+1% : STOP IF I%=1%") ∷ (20, codes "PRINT I%") ∷ []) ≡ codes "Stop at line 10\r\n 1 \r\n"
unfolding digits fault_text repeated_product place_of value_read item_read keywords signs letter_front digit_front quote_front sign_front front_of items_from tokens_from run verdict_of
a_stop_among_modifiers = refl

-- it is left with its parameters put back, and CONT continues after the whole statement
a_stop_in_a_body : shows_with_cont ((10, codes "DEF FNA%(X%)") ∷ (20, codes "STOP : FNA%=X%") ∷ (30, codes "FNEND") ∷ (40, codes "X%=5% : PRINT 'A'; FNA%(1%)") ∷ (50, codes "PRINT X%") ∷ []) ≡ codes "A\r\nStop at line 20\r\n 5 \r\n"
unfolding digits fault_text repeated_product place_of value_read item_read keywords signs letter_front digit_front quote_front sign_front front_of items_from tokens_from run verdict_of
a_stop_in_a_body = refl

-- UNITS

-- how many a program takes that asks nothing
abbrev units_in : {L S A : Type 0} → Act L S A → ℕ
units_in (Gives value s) = 0
units_in (Breaks why s) = 0
units_in (Asks request by) = 0
units_in (Types by) = 0
units_in (Takes s rest) = suc (units_in rest)

abbrev units_of : List (ℕ × List ℕ) → ℕ
units_of lines = units_in (runs_whole (program_read lines) 100 new_job)

an_if_that_goes_is_one_unit : units_of ((10, codes "IF 1% GOTO 20") ∷ (20, codes "END") ∷ []) ≡ 2
unfolding digits fault_text repeated_product place_of value_read item_read keywords signs letter_front digit_front quote_front sign_front front_of items_from tokens_from run verdict_of
an_if_that_goes_is_one_unit = refl

a_clause_is_one_more : units_of ((10, codes "IF 1% THEN 20") ∷ (20, codes "END") ∷ []) ≡ 3
unfolding digits fault_text repeated_product place_of value_read item_read keywords signs letter_front digit_front quote_front sign_front front_of items_from tokens_from run verdict_of
a_clause_is_one_more = refl

each_turn_is_a_unit : units_of ((10, codes "I%=I%+1% FOR J%=1% TO 4%") ∷ []) ≡ 5
unfolding digits fault_text repeated_product place_of value_read item_read keywords signs letter_front digit_front quote_front sign_front front_of items_from tokens_from run verdict_of
each_turn_is_a_unit = refl

a_call_is_a_unit : units_of ((10, codes "DEF FNA%(X%)=X%") ∷ (20, codes "I%=FNA%(1%)+FNA%(2%)") ∷ []) ≡ 4
unfolding digits fault_text repeated_product place_of value_read item_read keywords signs letter_front digit_front quote_front sign_front front_of items_from tokens_from run verdict_of
a_call_is_a_unit = refl

-- the DEF that is skipped, the LET, the call, the result and the FNEND
a_body_is_statements : units_of ((10, codes "DEF FNA%(X%)") ∷ (20, codes "FNA%=X% : FNEND") ∷ (30, codes "I%=FNA%(1%)") ∷ []) ≡ 5
unfolding digits fault_text repeated_product place_of value_read item_read keywords signs letter_front digit_front quote_front sign_front front_of items_from tokens_from run verdict_of
a_body_is_statements = refl

-- a program that loops, and its Tick is answered Expired
expired_in_a_loop :
    (play (runs_whole (program_read ((10, codes "GOTO 10") ∷ [])) 1500 new_job) at_start 1200 Over (Expired ∷ [])).0 ≡ Tick ∷ []
unfolding digits fault_text repeated_product place_of value_read item_read keywords signs letter_front digit_front quote_front sign_front front_of items_from tokens_from run verdict_of
expired_in_a_loop = refl
