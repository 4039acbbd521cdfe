-- The behaviour of a terminal's session: its requests and the bytes that it shows, given the keys
-- and the replies. A judge says of each line that is a statement which tree the grammar has for it,
-- or why the grammar rejects it.
use Rattle.std.specs.Prelude.{◌≡◌, ℕ, zero, suc, Bool, true, false, if◌then◌else◌, List, [], ◌++◌, map, replicate, Option, Some, None, Result, Ok, Err, codes}
use Rattle.std.specs.Option.{unwrap_or}
use Rattle.basic_values.specs.declared.errors.TheConstants.{DATA_FORMAT_ERROR}
use Rattle.basic_values.specs.declared.limits.TheConstants.{BLOCK_BYTES, LAST_CHANNEL}
use Rattle.monitor_calls.specs.declared.names.Account.{Account}
use Rattle.monitor_calls.specs.declared.files.OpenKind.{OpenKind}
use Rattle.monitor_calls.specs.declared.calls.Request.{Request}
use Rattle.monitor_calls.specs.declared.calls.Request.TheVariants as request
use Rattle.monitor_calls.specs.declared.calls.Reply.{Reply}
use Rattle.monitor_calls.specs.declared.calls.Reply.TheVariants.{Done, Failed}
use Rattle.monitor_calls.specs.declared.events.Event.{Event}
use Rattle.monitor_calls.specs.Pairs.{requests, replies, pairs_of}
use Rattle.monitor_calls.specs.Typing.{Typing, AreTyped, lines_in}
use Rattle.basic_tree.specs.LineVerdicts.{Verdict, HasTree, RefusedFor, Judge, Judges}
use Rattle.basic_tree.specs.SpellingStatements.{line_statements}
use Rattle.basic_tree.specs.Trees.{StatementTree}
use Rattle.error_trap.specs.Trapping.{untouched}
use Rattle.job_memory.specs.Memory.{empty}
use Rattle.job_model.specs.Act.{Act, Gives, Breaks, Types, Break, Faulted, Halted, Gone, Left, ◌then◌}
use Rattle.job_model.specs.Asking.{ask}
use Rattle.session_model.specs.Commands.{Login, Naming, Nameless, Named, Misnamed, Range, Command, Hello, Bye, BadBye, Idle, New, Rename, ListLines, Delete, Run, Continue, WrongTail, Old, RunFile, Save, Unsave, Catalog, Cataloging, OfOwn, OfAccount, OfNone, Assign, Deassign, Queue, Numbered, Immediate, command_of}
use Rattle.job_model.specs.Play.{at_start, fuel_for, play, End, Gave, Broke, Finished, Played, told_by}
use Rattle.job_model.specs.PlayLaws.{Begins}
use Rattle.job_model.specs.Texts.{line_end}
use Rattle.job_model.specs.Ends.{at_ends}
use Rattle.file_names.specs.declared.spec.Spec.{Spec}
use Rattle.basic_tree.specs.ProgramLines.{Lines, within, without, listing}
use Rattle.basic_values.specs.declared.limits.TheConstants.{MOST_FILES}
use Rattle.program_files.specs.Catalogs.{catalog_from}
use Rattle.program_files.specs.Channels.{FileAct, kills}
use Rattle.program_files.specs.Listings.{assigns, deassigns, prints_file}
use Rattle.program_files.specs.Programs.{reads_pages, writes_pages}
use Rattle.program_model.specs.declared.refusals.LowerCause.TheVariants.{NoLine}
use Rattle.program_model.specs.declared.refusals.LowerRefusal.{LowerRefusal}
use Rattle.program_model.specs.Program.{Program, Position}
use Rattle.program_model.specs.Job.{Job}
use Rattle.program_model.specs.Job as program
use Rattle.program_model.specs.Control.{Doing}
use Rattle.program_model.specs.Printing.{written}
use Rattle.program_model.specs.Reports.{Report, UsedUp, with_report, ended_screen}
use Rattle.channels.specs.Files.{closed_channel}
use Rattle.program_model.specs.Storage.{Storage, in_storage}
use Rattle.program_model.specs.FileActs.{shut_act}
use Rattle.program_model.specs.Running.{Coming, no_home, cleared, runs_cleared, raises, continues, runs_line}
use Rattle.program_model.specs.Soundness.{can_begin, refusal_of, refusal_now}
use Rattle.terminal_line.specs.Columns.{on_fresh_line}
use Rattle.session_model.specs.Editing.{Edited, Accepted, Refused, edited}
use Rattle.session_model.specs.ProgramFiles.{spec_read, listed_spec, spec_or_own, is_blank_text, saved_pages, program_on}
use Rattle.session_model.specs.Texts.{ready, please_say_hello, invalid_entry, already_logged_in, illegal_command, bye, illegal_file_name, fault_report, halt_report, cant_continue, refusal_text, lowering_report}

-- THE SESSION

-- R is how the place of a statement is kept.
pub record Session (R : Type 0) : Type 0 where
  -- the account that it acts for, or none before its login
  pub account : Option Account
  -- the name of the program in memory, and its lines
  pub name : List ℕ
  pub lines : Lines
  -- the state of its programs, with the bytes on the screen
  pub job : Job R
  -- the STOP after which CONT continues
  pub stop : Option (program.Leaving R)

-- it ends by BYE, and at the end of its keys
pub data SessionEnd : Type 0 where
  Ended : SessionEnd

abbrev pub Step : Type 0 → Type 0
Step R = Act SessionEnd (Session R) Unit

abbrev pub with_job : {R : Type 0} → Job R → Session R → Session R
with_job j s = record s { job = j }

abbrev pub with_screen : {R : Type 0} → Session R → List ℕ → Session R
with_screen s screen = with_job (record s.job { screen = screen }) s

-- bytes are written at the end of the screen
abbrev pub says : {R : Type 0} → List ℕ → Session R → Session R
says text s = with_job (written text s.job) s

abbrev pub acts_for : {R : Type 0} → Account → Session R → Session R
acts_for account s = with_job (record s.job { account = account }) (record s { account = Some account })

abbrev pub is_ready : {R : Type 0} → Session R → Session R
is_ready s = with_screen s (on_fresh_line ready s.job.screen)

-- a command that is done, with what it writes before Ready
abbrev pub answered : {R : Type 0} → List ℕ → Session R → Step R
answered text s = Gives tt (is_ready (says text s))

-- a report is written
abbrev pub shows_report : {R : Type 0} → Report → Session R → Session R
shows_report report s = with_screen s (with_report report s.job.screen)

-- a command that ends with a report, and Ready
abbrev pub reports : {R : Type 0} → Report → Session R → Step R
reports report s = Gives tt (is_ready (shows_report report s))

-- HELLO: the reply decides
abbrev pub entered : {R : Type 0} → Account → Reply → Session R → Step R
entered account Done s = Gives tt (is_ready (acts_for account s))
entered account (Failed number) s = Gives tt (says invalid_entry s)
entered account reply s = Breaks Gone s

abbrev pub hello : {R : Type 0} → Option Login → Session R → Step R
hello None s = Gives tt (says invalid_entry s)
hello (Some login) s = ask (request.Login login.account login.password) s then entered login.account

-- BYE, and the end of the keys: a job that is logged in logs out
abbrev pub log_out : {R : Type 0} → Session R → Step R
log_out s = ask request.Logout s then λ reply s. Breaks (Left Ended) (says bye s)

abbrev pub leave : {R : Type 0} → Option Account → Session R → Step R
leave None s = Breaks (Left Ended) s
leave (Some account) s = log_out s

-- THE PROGRAM

abbrev pub no_name : List ℕ
no_name = codes "NONAME"

abbrev pub named : {R : Type 0} → List ℕ → Session R → Session R
named name s = record s { name = name }

-- other lines: CONT cannot continue after an earlier STOP
abbrev pub with_lines : {R : Type 0} → Lines → Session R → Session R
with_lines lines s = record s { lines = lines; stop = None }

-- NEW: an empty program of that name, and the state in which a program begins
abbrev pub emptied : {R : Type 0} → Session R → Session R
emptied s = with_lines [] (with_job (cleared [] s.job) s)

abbrev pub renames : {R : Type 0} → Naming → Session R → Step R
renames Nameless s = answered illegal_command s
renames (Named name) s = answered [] (named name s)
renames Misnamed s = answered illegal_file_name s

-- LIST and RUN write the program's name first, and LISTNH and RUNNH do not
abbrev pub headed : {R : Type 0} → Bool → Session R → Session R
headed true s = says (s.name ++ line_end) s
headed false s = s

abbrev pub lists : {R : Type 0} → Bool → Option Range → Session R → Step R
lists with_name None s = answered illegal_command s
lists with_name (Some range) s = answered (listing (within range.from range.to s.lines)) (headed with_name s)

abbrev pub deletes : {R : Type 0} → Option Range → Session R → Step R
deletes None s = answered illegal_command s
deletes (Some range) s = answered [] (with_lines (without range.from range.to s.lines) s)

-- a program line that is stored, or deletes one, writes nothing
abbrev pub takes_edit : {R : Type 0} → Edited → Session R → Step R
takes_edit (Accepted lines) s = Gives tt (with_lines lines s)
takes_edit (Refused text) s = answered text s

-- FILES OF PROGRAMS

-- why a tree on files broke off: a fault is shown
abbrev pub broken_off : {R : Type 0} → Break ⊥ → Session R → Step R
broken_off (Faulted number) s = reports (fault_report number) s
broken_off (Halted halt) s = reports (halt_report halt) s
broken_off Gone s = Breaks Gone s
broken_off (Left none) s = absurd none

-- a tree of a part of the session, and what comes next
abbrev pub tried : {R P A : Type 0} → (P → Session R) → (A → Session R → Step R) → Act ⊥ P A → Step R
tried whole next act = at_ends whole (λ value p. next value (whole p)) (λ why p. broken_off why (whole p)) act

-- a tree on files, which uses nothing of the session
abbrev pub on_files : {R A : Type 0} → FileAct A → (A → Session R → Step R) → Session R → Step R
on_files act next s = tried (λ _. s) next act

-- THE IMPLICIT CLOSE of all channels, and what comes next

abbrev pub with_storage : {R : Type 0} → Session R → Storage → Session R
with_storage s storage = with_job (in_storage.with_part s.job storage) s

abbrev pub shut_down : {R : Type 0} → (Session R → Step R) → Session R → Step R
shut_down next s = tried (with_storage s) (λ _ s. next s) (shut_act (in_storage.part s.job))

-- what is done with the file that is named, or the error of the name
abbrev pub by_name : {R : Type 0} → Result Spec ℕ → (Spec → Session R → Step R) → Session R → Step R
by_name (Ok spec) act s = act spec s
by_name (Err number) act s = reports (fault_report number) s

-- OLD and RUN: a name has to follow them
abbrev pub with_name_of : {R : Type 0} → Account → List ℕ → (Spec → Session R → Step R) → Session R → Step R
with_name_of own tail act s =
    if is_blank_text tail then answered illegal_command s else by_name (spec_read own tail) act s

-- NEW: the channels are closed first
abbrev pub begins_new : {R : Type 0} → Naming → Session R → Step R
begins_new Nameless s = shut_down (λ s. answered [] (named no_name (emptied s))) s
begins_new (Named name) s = shut_down (λ s. answered [] (named name (emptied s))) s
begins_new Misnamed s = answered illegal_file_name s

-- the program that was read is in memory, and all is as NEW leaves it
abbrev pub loaded : {R : Type 0} → List ℕ → Lines → Session R → Session R
loaded name lines s = with_lines lines (named name (emptied s))

-- OLD: if the file has no program, that is an error, and nothing has changed; else the channels are
-- closed first
abbrev pub loads : {R : Type 0} → List ℕ → Option Lines → Session R → Step R
loads name None s = reports (fault_report DATA_FORMAT_ERROR) s
loads name (Some lines) s = shut_down (λ s. answered [] (loaded name lines s)) s

abbrev pub reads_old : {R : Type 0} → Judge → Spec → Session R → Step R
reads_old judge spec s =
    on_files (reads_pages spec.name spec.code) (λ pages s. loads spec.name.stem (program_on judge pages) s) s

abbrev pub old : {R : Type 0} → Judge → Account → List ℕ → Session R → Step R
old judge own tail s = with_name_of own tail (reads_old judge) s

-- SAVE and REPLACE
abbrev pub saves_as : {R : Type 0} → OpenKind → Spec → Session R → Step R
saves_as kind spec s =
    on_files (writes_pages spec.name kind spec.code (saved_pages s.lines)) (λ _ s. answered [] s) s

abbrev pub saves : {R : Type 0} → Account → OpenKind → List ℕ → Session R → Step R
saves own kind tail s = by_name (spec_or_own own s.name tail) (saves_as kind) s

-- UNSAVE, which ignores the code
abbrev pub kills_file : {R : Type 0} → Spec → Session R → Step R
kills_file spec s = on_files (kills spec.name) (λ _ s. answered [] s) s

abbrev pub unsaves : {R : Type 0} → Account → List ℕ → Session R → Step R
unsaves own tail s = by_name (spec_or_own own s.name tail) kills_file s

-- CAT
abbrev pub catalogs_of : {R : Type 0} → Account → Session R → Step R
catalogs_of owner s =
    tried (with_screen s) (λ _ s. answered [] s) (catalog_from owner 0 MOST_FILES s.job.screen)

abbrev pub catalogs : {R : Type 0} → Account → Cataloging → Session R → Step R
catalogs own OfOwn s = catalogs_of own s
catalogs own (OfAccount owner) s = catalogs_of owner s
catalogs own OfNone s = answered illegal_command s

-- THE PRINTER: a request about it, and Ready or the error
abbrev pub on_printer : {R : Type 0} → FileAct Unit → Session R → Step R
on_printer act s = on_files act (λ _ s. answered [] s) s

-- QUE: a name has to follow it
abbrev pub queues_by : {R : Type 0} → Result Spec ℕ → Session R → Step R
queues_by (Ok spec) s = on_printer (prints_file spec.name spec.code) s
queues_by (Err number) s = answered illegal_command s

abbrev pub queues : {R : Type 0} → Account → List ℕ → Session R → Step R
queues own tail s = queues_by (listed_spec own tail) s

-- the commands that run no program, for the account that the session acts for
abbrev pub rests : {R : Type 0} → Judge → Account → Command → Session R → Step R
rests judge own (Hello login) s = answered already_logged_in s
rests judge own Bye s = log_out s
rests judge own BadBye s = answered illegal_command s
rests judge own Idle s = Gives tt s
rests judge own (New naming) s = begins_new naming s
rests judge own (Rename naming) s = renames naming s
rests judge own (ListLines with_name range) s = lists with_name range s
rests judge own (Delete range) s = deletes range s
rests judge own WrongTail s = answered illegal_command s
rests judge own (Old tail) s = old judge own tail s
rests judge own (Save kind tail) s = saves own kind tail s
rests judge own (Unsave tail) s = unsaves own tail s
rests judge own (Catalog of) s = catalogs own of s
rests judge own Assign s = on_printer assigns s
rests judge own Deassign s = on_printer deassigns s
rests judge own (Queue tail) s = queues own tail s
rests judge own (Numbered number rest) s = takes_edit (edited judge number rest s.lines) s
-- `user_acts` defines these four
rests judge own (Run with_name) s = Gives tt s
rests judge own (RunFile tail) s = Gives tt s
rests judge own Continue s = Gives tt s
rests judge own (Immediate statement) s = Gives tt s

-- PROGRAMS THAT RUN

-- the statements of a line
abbrev pub statements_by : Verdict → List StatementTree
statements_by (HasTree tree) = line_statements tree
statements_by (RefusedFor cause) = []

-- the program that the lines in memory spell
abbrev pub program_by : Judge → Lines → Program
program_by judge lines = map (λ line. record { number = line.0; statements = statements_by (judge line.1) }) lines

-- The session continues after what a program does in it, unless the job's calls are used up.
abbrev pub outlived : {R : Type 0} → (Break (program.Leaving R) → Job R → Session R) → Session R → Break (program.Leaving R) → Job R → Step R
outlived over s Gone j = Breaks Gone (with_job j s)
outlived over s why j = Gives tt (over why j)

-- what a program does in a session, with what is done at its end
abbrev pub in_session : {R A : Type 0} → (Break (program.Leaving R) → Job R → Step R) → Session R → program.Deed R A → Step R
in_session ended s act = at_ends (λ j. with_job j s) (λ value j. ended (Left program.Ended) j) ended act

-- what is written at its end, and Ready
abbrev pub reported : {R : Type 0} → Session R → Break (program.Leaving R) → Job R → Session R
reported s why j = is_ready (with_job (record j { screen = ended_screen why j }) s)

-- a STOP is kept for CONT, and no other end
abbrev pub stop_by : {R : Type 0} → Break (program.Leaving R) → Option (program.Leaving R)
stop_by (Left (program.Stopped place)) = Some (program.Stopped place)
stop_by (Left (program.StoppedInside home)) = Some (program.StoppedInside home)
stop_by why = None

abbrev pub run_is_over : {R : Type 0} → Session R → Break (program.Leaving R) → Job R → Session R
run_is_over s why j = record (reported s why j) { stop = stop_by why }

-- HOW A PROGRAM BEGINS, at a given line or at its first

-- how the run of a program is done in a session
abbrev pub Runner : Type 0
Runner = Program → Session Position → Doing Coming → Step Position

abbrev pub begun : Program → Session Position → Session Position
begun program s = record s { job = cleared program s.job; stop = None }

abbrev pub no_line : Option ℕ → LowerRefusal
no_line line = record { line = unwrap_or line 0; cause = NoLine }

abbrev pub runs_there : Runner → Program → ℕ → Option ℕ → Bool → Session Position → Step Position
runs_there run p most line true s = run p s (runs_cleared p most line s.job)
runs_there run p most line false s = reports (lowering_report (no_line line)) s

-- a program that is rejected before it runs leaves the memory cleared, and so does a line at which
-- it cannot begin
abbrev pub runs_unless : Runner → Option LowerRefusal → Program → ℕ → Option ℕ → Session Position → Step Position
runs_unless run (Some refusal) p most line s = reports (lowering_report refusal) s
runs_unless run None p most line s = runs_there run p most line (can_begin p line) s

-- after the closing
abbrev pub runs_shut : Runner → Program → ℕ → Option ℕ → Session Position → Step Position
runs_shut run p most line s = runs_unless run (refusal_of p) p most line (begun p s)

abbrev pub runs : Runner → Program → ℕ → Option ℕ → Session Position → Step Position
runs run p most line s = shut_down (runs_shut run p most line) s

-- CHAIN

-- the program that is named is read as OLD reads it, and a file without a program is an error
abbrev pub or_bad_text : List ℕ → Option Lines → FileAct (List ℕ × Lines)
or_bad_text name None = Breaks (Faulted DATA_FORMAT_ERROR) tt
or_bad_text name (Some lines) = Gives (name, lines) tt

abbrev pub reads_file : Judge → Spec → FileAct (List ℕ × Lines)
reads_file judge spec = reads_pages spec.name spec.code then λ pages _. or_bad_text spec.name.stem (program_on judge pages)

abbrev pub reads_by : Judge → Result Spec ℕ → FileAct (List ℕ × Lines)
reads_by judge (Ok spec) = reads_file judge spec
reads_by judge (Err number) = Breaks (Faulted number) tt

abbrev pub reads_program : Judge → Account → List ℕ → FileAct (List ℕ × Lines)
reads_program judge own text = reads_by judge (spec_read own text)

-- the program that was read is in memory, and begins
abbrev pub chains_to : Judge → Runner → ℕ → List ℕ × Lines → Session Position → Step Position
chains_to judge run most (name, lines) s =
    runs run (program_by judge lines) most s.job.destination.line (loaded name lines s)

-- what is known when a program, or a line of immediate mode, has ended
pub record Ending : Type 0 where
  pub judge : Judge
  -- how the next program is run, and for at most this many statements
  pub run : Runner
  pub most : ℕ
  -- what an error of the CHAIN leads to
  pub faulted : ℕ → Job Position → Step Position
  -- the session after every other end
  pub over : Break (program.Leaving Position) → Job Position → Session Position
  -- the session that it ran in
  pub session : Session Position

-- the reading broke off: an error is one of the CHAIN, and the program in memory stays
abbrev pub unread : Ending → Break ⊥ → Job Position → Step Position
unread end (Faulted number) j = end.faulted number j
unread end (Halted halt) j = Gives tt (end.over (Halted halt) j)
unread end Gone j = Breaks Gone (with_job j end.session)
unread end (Left none) j = absurd none

abbrev pub follows_chain : Ending → Job Position → Step Position
follows_chain end j =
    at_ends (λ _. with_job j end.session) (λ read _. chains_to end.judge end.run end.most read (with_job j end.session)) (λ why _. unread end why j)
    (reads_program end.judge j.account j.destination.name)

-- after a CHAIN the next program follows; after every other end the session continues
abbrev pub behind_end : Ending → Break (program.Leaving Position) → Job Position → Step Position
behind_end end (Left program.Chained) j = follows_chain end j
behind_end end why j = outlived end.over end.session why j

-- a program that runs in a session, for at most this many statements
pub record ProgramRun : Type 0 where
  pub judge : Judge
  pub most : ℕ
  pub program : Program
  pub session : Session Position

-- with this at its end
abbrev pub run_to : (ProgramRun → Break (program.Leaving Position) → Job Position → Step Position) → Judge → ℕ → Runner
run_to ended judge most p s act = in_session (ended (record { judge = judge; most = most; program = p; session = s })) s act

-- the end of a run that may chain: the program continues with an error of its CHAIN
abbrev pub run_ending : (ProgramRun → Break (program.Leaving Position) → Job Position → Step Position) → ProgramRun → Ending
run_ending ended r = record {
  judge = r.judge;
  run = run_to ended r.judge r.most;
  most = r.most;
  faulted = λ number j. run_to ended r.judge r.most r.program r.session (raises r.program r.most number j);
  over = run_is_over r.session;
  session = r.session;
}

-- At the end of a program, after which this many more may chain. Each chain takes a unit, so the
-- bound is enough if it is larger than the number of units.
abbrev pub ends_run : ℕ → ProgramRun → Break (program.Leaving Position) → Job Position → Step Position
ends_run zero r why j = outlived (run_is_over r.session) r.session why j
ends_run (suc count) r why j = behind_end (run_ending (ends_run count) r) why j

-- a run of a program, and of those to which it chains
abbrev pub runs_chained : Judge → ℕ → ℕ → Runner
runs_chained judge most count = run_to (ends_run count) judge most

-- RUN
abbrev pub runs_all : Judge → Program → ℕ → Session Position → Step Position
runs_all judge p most s = runs (runs_chained judge most most) p most None s

-- RUN with a name: the program is read as OLD reads it, and runs
abbrev pub runs_loaded : Judge → ℕ → List ℕ → Option Lines → Session Position → Step Position
runs_loaded judge most name None s = reports (fault_report DATA_FORMAT_ERROR) s
runs_loaded judge most name (Some lines) s = runs_all judge (program_by judge lines) most (loaded name lines s)

abbrev pub reads_and_runs : Judge → ℕ → Spec → Session Position → Step Position
reads_and_runs judge most spec s =
    on_files (reads_pages spec.name spec.code) (λ pages s. runs_loaded judge most spec.name.stem (program_on judge pages) s) s

abbrev pub runs_file : Judge → ℕ → Account → List ℕ → Session Position → Step Position
runs_file judge most own tail s = with_name_of own tail (reads_and_runs judge most) s

-- CONT
abbrev pub goes_on : Judge → Program → ℕ → Option (program.Leaving Position) → Session Position → Step Position
goes_on judge p most None s = answered cant_continue s
goes_on judge p most (Some stop) s = runs_chained judge most most p s (continues p most stop s.job)

-- A line of immediate mode, which may be rejected before it runs, and keeps a STOP. An error of its
-- CHAIN is reported.
abbrev pub line_ending : Judge → ℕ → Session Position → Ending
line_ending judge most s = record {
  judge = judge;
  run = runs_chained judge most most;
  most = most;
  faulted = λ number j. Gives tt (reported s (Faulted number) j);
  over = reported s;
  session = s;
}

abbrev pub line_ended : Judge → ℕ → Session Position → Break (program.Leaving Position) → Job Position → Step Position
line_ended judge most s why j = behind_end (line_ending judge most s) why j

abbrev pub line_unless : Judge → Option LowerRefusal → List StatementTree → ℕ → Session Position → Step Position
line_unless judge (Some refusal) statements most s = reports (lowering_report refusal) s
line_unless judge None statements most s = in_session (line_ended judge most s) s (runs_line statements most s.job)

-- it has a tree
abbrev pub does_line : Judge → List StatementTree → ℕ → Session Position → Step Position
does_line judge statements most s = line_unless judge (refusal_now statements) statements most s

abbrev pub immediate : Judge → Verdict → ℕ → Session Position → Step Position
immediate judge (RefusedFor cause) most s = answered (refusal_text cause) s
immediate judge (HasTree tree) most s = does_line judge (line_statements tree) most s

-- KEY LINES

abbrev pub visitor_acts : {R : Type 0} → Command → Session R → Step R
visitor_acts (Hello login) s = hello login s
visitor_acts Bye s = Breaks (Left Ended) s
visitor_acts BadBye s = answered illegal_command s
visitor_acts other s = Gives tt (says please_say_hello s)

-- a program runs for at most this many statements
abbrev pub user_acts : Judge → ℕ → Account → Command → Session Position → Step Position
user_acts judge most own (Run with_name) s = runs_all judge (program_by judge s.lines) most (headed with_name s)
user_acts judge most own (RunFile tail) s = runs_file judge most own tail s
user_acts judge most own Continue s = goes_on judge (program_by judge s.lines) most s.stop s
user_acts judge most own (Immediate statement) s = immediate judge (judge statement) most s
user_acts judge most own command s = rests judge own command s

abbrev pub acts : Judge → ℕ → Option Account → Command → Session Position → Step Position
acts judge most None command s = visitor_acts command s
acts judge most (Some account) command s = user_acts judge most account command s

-- one key line: its echo, and what it asks for
abbrev pub line_acts : Judge → ℕ → List ℕ → Session Position → Step Position
line_acts judge most line s = acts judge most s.account (command_of line) (says (line ++ line_end) s)

-- what is done with the next key line, and at the end of the keys
abbrev pub key_acts : Judge → ℕ → Option (List ℕ) → Session Position → Step Position
key_acts judge most None s = leave s.account s
key_acts judge most (Some line) s = line_acts judge most line s

-- the next key line is typed
abbrev pub turn : Judge → ℕ → Session Position → Step Position
turn judge most s = Types (λ key. key_acts judge most key s)

-- key lines one after another, at most this many
abbrev pub session : Judge → ℕ → ℕ → Session Position → Step Position
session judge most zero s = leave s.account s
session judge most (suc count) s = turn judge most s then λ _ s. session judge most count s

-- the account of a job before a login
abbrev pub no_account : Account
no_account = record { project = 0; programmer = 0 }

-- a job that has run nothing
abbrev pub new_job : {R : Type 0} → Job R
new_job = record {
  account = no_account;
  memory = empty;
  channels = replicate LAST_CHANNEL closed_channel;
  recount = 0;
  common = [];
  buffers = replicate LAST_CHANNEL (replicate BLOCK_BYTES 0);
  screen = [];
  trap = untouched;
  returns = [];
  limits = [];
  item = 0;
  line = 0;
  home = no_home;
  frames = [];
  destination = program.no_destination;
}

-- nobody is logged in, nothing was written, and there is no program
abbrev pub opening : {R : Type 0} → Session R
opening = record { account = None; name = no_name; lines = []; job = new_job; stop = None }

abbrev pub whole_session : Judge → ℕ → ℕ → Step Position
whole_session judge most count = session judge most count opening

-- THE BEHAVIOUR OF A SESSION

-- the job's calls are used up
abbrev pub expired : {R : Type 0} → Session R → Session R
expired s = shows_report UsedUp s

-- the screen of a session that is over
abbrev pub shown : {R : Type 0} → End SessionEnd (Session R) Unit → List ℕ
shown (Gave done s) = s.job.screen
shown (Broke Gone s) = (expired s).job.screen
shown (Broke why s) = s.job.screen

-- more statements than there is fuel for
abbrev pub statements_for : List Reply → ℕ
statements_for replies = suc (fuel_for replies)

-- as many key lines as are typed, and the end of the keys
abbrev pub talk : Judge → Typing → List Reply → Played (List ℕ)
talk judge keys replies =
    told_by shown (play (whole_session judge (statements_for replies) (suc (lines_in keys))) at_start (fuel_for replies) keys replies)

-- It is true for the judge by the grammar: there is one, and it is true for every judge that judges
-- so.
abbrev pub ByGrammar : (Judge → Type 0) → Type 0
ByGrammar holds = ((judge : Judge) × Judges judge) × ((judge : Judge) → Judges judge → holds judge)

-- the session with these keys and replies makes these requests, and finishes with this screen
abbrev pub IsTalk : Typing → List Reply → List Request → List ℕ → Type 0
IsTalk keys replies requests screen =
    ByGrammar (λ judge. talk judge keys replies ≡ (requests, Finished screen))

-- these requests are the first that the session makes
abbrev pub BeginsTalk : Typing → List Reply → List Request → Type 0
BeginsTalk keys replies requests =
    ByGrammar (λ judge. Begins requests (talk judge keys replies).0)

-- WHAT A PORT HAS SEEN: its events, wherever their key lines come from

-- Whatever is typed, if the key lines of the events are the first of it: the session makes the
-- requests of the events and finishes with this screen.
abbrev pub IsTalkOf : List Event → List ℕ → Type 0
IsTalkOf events screen =
    (keys : Typing) → AreTyped keys events
    → IsTalk keys (replies (pairs_of events)) (requests (pairs_of events)) screen

-- in the same way, the requests of the events are the first that the session makes
abbrev pub BeginsTalkOf : List Event → Type 0
BeginsTalkOf events =
    (keys : Typing) → AreTyped keys events
    → BeginsTalk keys (replies (pairs_of events)) (requests (pairs_of events))
