-- A session with the places of a program's code does the same, if it runs no program, and at the
-- end of one.
use Rattle.std.proofs.Common.{◌≡◌, ℕ, List, [], ◌∷◌, ◌++◌, Option, Some, None, Result, Ok, Err, refl, sym, ap, Bool, true, false}
use Rattle.std.specs.Prelude.{if◌then◌else◌}
use Rattle.grammar_machine.specs.MachineJudge.{judge_of}
use Rattle.basic_tree.specs.Trees.{StatementTree}
use Rattle.error_trap.specs.Trapping.{untouched}
use Rattle.monitor_calls.specs.declared.names.Account.{Account}
use Rattle.monitor_calls.specs.declared.files.OpenKind.{OpenKind}
use Rattle.monitor_calls.specs.declared.calls.Request.TheVariants as request
use Rattle.monitor_calls.specs.declared.calls.Reply.{Reply}
use Rattle.monitor_calls.specs.declared.calls.Reply.TheVariants.{Done, Failed}
use Rattle.job_model.specs.Act.{Act, Gives, Breaks, Asks, Types, Takes, Break, Faulted, Halted, Gone, Left, break_over, over}
use Rattle.job_model.specs.Asking.{counts_as}
use Rattle.file_names.specs.declared.spec.Spec.{Spec}
use Rattle.basic_values.specs.declared.limits.TheConstants.{MOST_FILES}
use Rattle.program_files.specs.Catalogs.{catalog_from}
use Rattle.program_files.specs.Channels.{FileAct, kills}
use Rattle.program_files.specs.Listings.{assigns, deassigns, prints_file}
use Rattle.program_files.specs.Programs.{reads_pages, writes_pages}
use Rattle.program_model.specs.Program.{Program, Position, statements_of}
use Rattle.program_model.specs.Job as program
use Rattle.program_model.specs.Job.{Job}
use Rattle.program_model.specs.Storage.{in_storage}
use Rattle.program_model.specs.FileActs.{shut_act}
use Rattle.program_model.specs.Running.{cleared}
use Rattle.program_model.specs.Soundness.{refusal_of}
use Rattle.polish_code.specs.Code.{start_of}
use Rattle.polish_code.specs.Walk.{Spot}
use Rattle.polish_code.specs.Lowered.{lowered, low_leaving}
use Rattle.basic_eval.specs.declared.exits.Exit.{Exit}
use Rattle.basic_eval.specs.declared.exits.Exit.TheVariants as exit
use Rattle.basic_eval.specs.Acting.{break_of}
use Rattle.session_model.specs.Commands.{Login, Naming, Nameless, Named, Misnamed, Range, Command, Hello, Bye, New, Rename, ListLines, Delete, Old, Save, Unsave, Catalog, Cataloging, OfOwn, OfAccount, OfNone, Assign, Deassign, Queue, Numbered}
use Rattle.session_model.specs.Editing.{Edited, Accepted, Refused, edited}
use Rattle.session_model.specs.ProgramFiles.{spec_read, listed_spec, spec_or_own, is_blank_text, saved_pages, program_on}
use Rattle.session_model.specs.Talk.{Session, Step, SessionEnd, with_job, says, with_lines, named, no_name, answered, entered, hello, leave, log_out, emptied, begins_new, renames, headed, lists, deletes, takes_edit, broken_off, tried, with_storage, shut_down, by_name, loaded, loads, reads_old, old, saves_as, saves, kills_file, unsaves, with_screen, catalogs_of, catalogs, on_printer, queues_by, rests, visitor_acts, program_by, reported, run_is_over}
use Rattle.session_model.specs.Talk as talk
use Rattle.basic_tree.specs.ProgramLines.{Lines}
use Rattle.job_model.specs.Ends.{EndsWhere}
use Rattle.command_level.specs.Standing.{is_gone, low_session, StopFits}

start_zero : (ss : List StatementTree) → start_of ss 0 ≡ 0
start_zero [] = refl
start_zero (s ∷ ss) = refl

-- the state in which a program begins has only the first place
pub low_cleared : (p q r : Program) (j : Job Position) → lowered p (cleared q j) ≡ cleared q (lowered r j)
low_cleared p q r j = ap (λ (z : ℕ). record (cleared q (lowered r j)) { trap = record untouched { place = z }; home = record { start = z; behind = z; line = 0 } }) (start_zero (statements_of p))

module _ (p : Program) where
  abbrev pub low : Session Position → Session Spot
  low = low_session p

  -- the same tree, of the session with the places of the code
  abbrev pub lows : Step Position → Step Spot
  lows m = over (λ way. way) low m

  -- THE BEGINNING OF A PROGRAM

  abbrev new_from : List ℕ → Session Spot → Job Spot → Step Spot
  new_from name s j = answered [] (named name (with_lines [] (with_job j s)))

  named_low : (name : List ℕ) (s : Session Position) → answered [] (named name (emptied (low s))) ≡ lows (answered [] (named name (emptied s)))
  named_low name s = ap (new_from name (low s)) (sym (low_cleared p [] p s.job))

  renames_low : (naming : Naming) (s : Session Position) → renames naming (low s) ≡ lows (renames naming s)
  renames_low Nameless s = refl
  renames_low (Named name) s = refl
  renames_low Misnamed s = refl

  lists_low : (with_name : Bool) (range : Option Range) (s : Session Position) → lists with_name range (low s) ≡ lows (lists with_name range s)
  lists_low with_name None s = refl
  lists_low true (Some range) s = refl
  lists_low false (Some range) s = refl

  deletes_low : (range : Option Range) (s : Session Position) → deletes range (low s) ≡ lows (deletes range s)
  deletes_low None s = refl
  deletes_low (Some range) s = refl

  edit_low : (edit : Edited) (s : Session Position) → takes_edit edit (low s) ≡ lows (takes_edit edit s)
  edit_low (Accepted lines) s = refl
  edit_low (Refused text) s = refl

  if_low : (b : Bool) (m k : Step Spot) (m' k' : Step Position) → m ≡ lows m' → k ≡ lows k' → (if b then m else k) ≡ lows (if b then m' else k')
  if_low true m k m' k' e f = e
  if_low false m k m' k' e f = f

  -- FILES

  pub broken_low : (why : Break ⊥) (s : Session Position) → broken_off why (low s) ≡ lows (broken_off why s)
  broken_low (Faulted number) s = refl
  broken_low (Halted halt) s = refl
  broken_low Gone s = refl
  broken_low (Left none) s = absurd none

  tried_low : {Q A : Type 0} (whole : Q → Session Position) (next : A → Session Spot → Step Spot) (next' : A → Session Position → Step Position) (act : Act ⊥ Q A)
      → ((a : A) (s : Session Position) → next a (low s) ≡ lows (next' a s)) → tried (λ q. low (whole q)) next act ≡ lows (tried whole next' act)
  tried_low whole next next' (Gives a q) h = h a (whole q)
  tried_low whole next next' (Breaks why q) h = broken_low why (whole q)
  tried_low whole next next' (Asks r by) h = λ i. Asks r (λ x. tried_low whole next next' (by x) h i)
  tried_low whole next next' (Types by) h = λ i. Types (λ key. tried_low whole next next' (by key) h i)
  tried_low whole next next' (Takes q rest) h = λ i. Takes (low (whole q)) (tried_low whole next next' rest h i)

  -- all channels are closed
  shut_low : (next : Session Spot → Step Spot) (next' : Session Position → Step Position) (s : Session Position) → ((s : Session Position) → next (low s) ≡ lows (next' s)) → shut_down next (low s) ≡ lows (shut_down next' s)
  shut_low next next' s h = tried_low (with_storage s) (λ _ s. next s) (λ _ s. next' s) (shut_act (in_storage.part s.job)) (λ _ s. h s)

  new_low : (naming : Naming) (s : Session Position) → begins_new naming (low s) ≡ lows (begins_new naming s)
  new_low Nameless s = shut_low (λ s. answered [] (named no_name (emptied s))) (λ s. answered [] (named no_name (emptied s))) s (named_low no_name)
  new_low (Named name) s = shut_low (λ s. answered [] (named name (emptied s))) (λ s. answered [] (named name (emptied s))) s (named_low name)
  new_low Misnamed s = refl

  by_name_low : (named : Result Spec ℕ) (act : Spec → Session Spot → Step Spot) (act' : Spec → Session Position → Step Position) (s : Session Position) → ((spec : Spec) → act spec (low s) ≡ lows (act' spec s))
      → by_name named act (low s) ≡ lows (by_name named act' s)
  by_name_low (Ok spec) act act' s h = h spec
  by_name_low (Err number) act act' s h = refl

  abbrev loaded_from : List ℕ → Lines → Session Spot → Job Spot → Session Spot
  loaded_from name lines s j = with_lines lines (named name (with_lines [] (with_job j s)))

  pub loaded_low : (name : List ℕ) (lines : Lines) (s : Session Position) → loaded name lines (low s) ≡ low (loaded name lines s)
  loaded_low name lines s = ap (loaded_from name lines (low s)) (sym (low_cleared p [] p s.job))

  loads_low : (name : List ℕ) (o : Option Lines) (s : Session Position) → loads name o (low s) ≡ lows (loads name o s)
  loads_low name None s = refl
  loads_low name (Some lines) s = shut_low (λ s. answered [] (loaded name lines s)) (λ s. answered [] (loaded name lines s)) s (λ s. ap (answered []) (loaded_low name lines s))

  old_low : (own : Account) (tail : List ℕ) (s : Session Position) → old judge_of own tail (low s) ≡ lows (old judge_of own tail s)
  old_low own tail s =
      if_low (is_blank_text tail) _ _ _ _ refl
      (by_name_low (spec_read own tail) (reads_old judge_of) (reads_old judge_of) s
      (λ spec. tried_low (λ _. s) (λ pages s. loads spec.name.stem (program_on judge_of pages) s) (λ pages s. loads spec.name.stem (program_on judge_of pages) s) (reads_pages spec.name spec.code) (λ pages s. loads_low spec.name.stem (program_on judge_of pages) s)))

  saves_low : (own : Account) (kind : OpenKind) (tail : List ℕ) (s : Session Position) → saves own kind tail (low s) ≡ lows (saves own kind tail s)
  saves_low own kind tail s =
      by_name_low (spec_or_own own s.name tail) (saves_as kind) (saves_as kind) s
      (λ spec. tried_low (λ _. s) (λ _ s. answered [] s) (λ _ s. answered [] s) (writes_pages spec.name kind spec.code (saved_pages s.lines)) (λ _ s. refl))

  unsaves_low : (own : Account) (tail : List ℕ) (s : Session Position) → unsaves own tail (low s) ≡ lows (unsaves own tail s)
  unsaves_low own tail s = by_name_low (spec_or_own own s.name tail) kills_file kills_file s (λ spec. tried_low (λ _. s) (λ _ s. answered [] s) (λ _ s. answered [] s) (kills spec.name) (λ _ s. refl))

  catalogs_of_low : (owner : Account) (s : Session Position) → catalogs_of owner (low s) ≡ lows (catalogs_of owner s)
  catalogs_of_low owner s = tried_low (with_screen s) (λ _ s. answered [] s) (λ _ s. answered [] s) (catalog_from owner 0 MOST_FILES s.job.screen) (λ _ s. refl)

  catalogs_low : (own : Account) (of : Cataloging) (s : Session Position) → catalogs own of (low s) ≡ lows (catalogs own of s)
  catalogs_low own OfOwn s = catalogs_of_low own s
  catalogs_low own (OfAccount owner) s = catalogs_of_low owner s
  catalogs_low own OfNone s = refl

  on_printer_low : (act : FileAct (Unit {0})) (s : Session Position) → on_printer act (low s) ≡ lows (on_printer act s)
  on_printer_low act s = tried_low (λ _. s) (λ _ s. answered [] s) (λ _ s. answered [] s) act (λ _ s. refl)

  queues_low : (named : Result Spec ℕ) (s : Session Position) → queues_by named (low s) ≡ lows (queues_by named s)
  queues_low (Ok spec) s = on_printer_low (prints_file spec.name spec.code) s
  queues_low (Err number) s = refl

  pub rests_low : (own : Account) (command : Command) (s : Session Position) → rests judge_of own command (low s) ≡ lows (rests judge_of own command s)
  rests_low own (New naming) s = new_low naming s
  rests_low own (Rename naming) s = renames_low naming s
  rests_low own (ListLines with_name range) s = lists_low with_name range s
  rests_low own (Delete range) s = deletes_low range s
  rests_low own (Old tail) s = old_low own tail s
  rests_low own (Save kind tail) s = saves_low own kind tail s
  rests_low own (Unsave tail) s = unsaves_low own tail s
  rests_low own (Catalog of) s = catalogs_low own of s
  rests_low own Assign s = on_printer_low assigns s
  rests_low own Deassign s = on_printer_low deassigns s
  rests_low own (Queue tail) s = queues_low (listed_spec own tail) s
  rests_low own (Numbered number rest) s = edit_low (edited judge_of number rest s.lines) s
  rests_low own command s = refl

  entered_low : (account : Account) (reply : Reply) (s : Session Position) → entered account reply (low s) ≡ lows (entered account reply s)
  entered_low account Done s = refl
  entered_low account (Failed number) s = refl
  entered_low account reply s = refl

  hello_low : (login : Option Login) (s : Session Position) → hello login (low s) ≡ lows (hello login s)
  hello_low None s = refl
  hello_low (Some login) s = λ i. Asks (request.Login login.account login.password) (λ reply. entered_low login.account (counts_as (request.Login login.account login.password) reply) s i)

  pub visitor_low : (command : Command) (s : Session Position) → visitor_acts command (low s) ≡ lows (visitor_acts command s)
  visitor_low (Hello login) s = hello_low login s
  visitor_low command s = refl

  pub leave_low : (account : Option Account) (s : Session Position) → leave account (low s) ≡ lows (leave account s)
  leave_low None s = refl
  leave_low (Some account) s = refl

  pub headed_low : (with_name : Bool) (s : Session Position) → headed with_name (low s) ≡ low (headed with_name s)
  headed_low true s = refl
  headed_low false s = refl

  -- THE ENDS OF RUNS

  -- what an end leads to, with the places of the code
  pub end_low : (s : Session Position) (why : Break (program.Leaving Position)) (j : Job Position) → talk.outlived (run_is_over (low (with_job j s))) (low (with_job j s)) (break_over (low_leaving p) why) (lowered p j) ≡ lows (talk.outlived (run_is_over s) s why j)
  end_low s Gone j = refl
  end_low s (Faulted fault) j = refl
  end_low s (Halted halt) j = refl
  end_low s (Left program.Ended) j = refl
  end_low s (Left (program.Stopped q)) j = refl
  end_low s (Left (program.StoppedInside home)) j = refl
  end_low s (Left program.Chained) j = refl

  -- and the end of a line, whose own places nobody keeps
  pub line_low : (q : Program) (s : Session Position) (why : Break (program.Leaving Position)) (j : Job Position) → talk.outlived (reported (low (with_job j s))) (low (with_job j s)) (break_over (low_leaving q) why) (lowered p j) ≡ lows (talk.outlived (reported s) s why j)
  line_low q s Gone j = refl
  line_low q s (Faulted fault) j = refl
  line_low q s (Halted halt) j = refl
  line_low q s (Left program.Ended) j = refl
  line_low q s (Left (program.Stopped spot)) j = refl
  line_low q s (Left (program.StoppedInside home)) j = refl
  line_low q s (Left program.Chained) j = refl

  -- A STOP THAT FITS

  abbrev pub Fit : {A : Type 0} → Act SessionEnd (Session Position) A → Type 0
  Fit m = EndsWhere (StopFits p) m

  pub end_fits : (s : Session Position) (why : Break (program.Leaving Position)) (j : Job Position) → p ≡ program_by judge_of s.lines → refusal_of p ≡ None → StopFits p s → Fit (talk.outlived (run_is_over s) s why j)
  end_fits s Gone j here sound fits = fits
  end_fits s (Faulted fault) j here sound fits = tt
  end_fits s (Halted halt) j here sound fits = tt
  end_fits s (Left program.Ended) j here sound fits = tt
  end_fits s (Left (program.Stopped q)) j here sound fits = (here, sound)
  end_fits s (Left (program.StoppedInside home)) j here sound fits = (here, sound)
  end_fits s (Left program.Chained) j here sound fits = tt

  pub line_fits : (s : Session Position) (why : Break (program.Leaving Position)) (j : Job Position) → StopFits p s → Fit (talk.outlived (reported s) s why j)
  line_fits s Gone j fits = fits
  line_fits s (Faulted fault) j fits = fits
  line_fits s (Halted halt) j fits = fits
  line_fits s (Left way) j fits = fits

  renames_fits : (naming : Naming) (s : Session Position) → StopFits p s → Fit (renames naming s)
  renames_fits Nameless s h = h
  renames_fits (Named name) s h = h
  renames_fits Misnamed s h = h

  lists_fits : (with_name : Bool) (range : Option Range) (s : Session Position) → StopFits p s → Fit (lists with_name range s)
  lists_fits with_name None s h = h
  lists_fits true (Some range) s h = h
  lists_fits false (Some range) s h = h

  deletes_fits : (range : Option Range) (s : Session Position) → StopFits p s → Fit (deletes range s)
  deletes_fits None s h = h
  deletes_fits (Some range) s h = tt

  edit_fits : (edit : Edited) (s : Session Position) → StopFits p s → Fit (takes_edit edit s)
  edit_fits (Accepted lines) s h = tt
  edit_fits (Refused text) s h = h

  if_fits : (b : Bool) (m k : Step Position) → Fit m → Fit k → Fit (if b then m else k)
  if_fits true m k e f = e
  if_fits false m k e f = f

  pub broken_fits : (why : Break ⊥) (s : Session Position) → StopFits p s → Fit (broken_off why s)
  broken_fits (Faulted number) s h = h
  broken_fits (Halted halt) s h = h
  broken_fits Gone s h = h
  broken_fits (Left none) s h = absurd none

  tried_fits : {Q A : Type 0} (whole : Q → Session Position) (next : A → Session Position → Step Position) (act : Act ⊥ Q A) → ((q : Q) → StopFits p (whole q)) → ((a : A) (s : Session Position) → StopFits p s → Fit (next a s)) → Fit (tried whole next act)
  tried_fits whole next (Gives a q) h f = f a (whole q) (h q)
  tried_fits whole next (Breaks why q) h f = broken_fits why (whole q) (h q)
  tried_fits whole next (Asks r by) h f = λ x. tried_fits whole next (by x) h f
  tried_fits whole next (Types by) h f = λ key. tried_fits whole next (by key) h f
  tried_fits whole next (Takes q rest) h f = (h q, tried_fits whole next rest h f)

  shut_fits : (next : Session Position → Step Position) (s : Session Position) → StopFits p s → ((s : Session Position) → Fit (next s)) → Fit (shut_down next s)
  shut_fits next s h f = tried_fits (with_storage s) (λ _ s. next s) (shut_act (in_storage.part s.job)) (λ _. h) (λ _ s g. f s)

  new_fits : (naming : Naming) (s : Session Position) → StopFits p s → Fit (begins_new naming s)
  new_fits Nameless s h = shut_fits (λ s. answered [] (named no_name (emptied s))) s h (λ s. tt)
  new_fits (Named name) s h = shut_fits (λ s. answered [] (named name (emptied s))) s h (λ s. tt)
  new_fits Misnamed s h = h

  by_name_fits : (named : Result Spec ℕ) (act : Spec → Session Position → Step Position) (s : Session Position) → StopFits p s → ((spec : Spec) → Fit (act spec s)) → Fit (by_name named act s)
  by_name_fits (Ok spec) act s h f = f spec
  by_name_fits (Err number) act s h f = h

  loads_fits : (name : List ℕ) (o : Option Lines) (s : Session Position) → StopFits p s → Fit (loads name o s)
  loads_fits name None s h = h
  loads_fits name (Some lines) s h = shut_fits (λ s. answered [] (loaded name lines s)) s h (λ s. tt)

  old_fits : (own : Account) (tail : List ℕ) (s : Session Position) → StopFits p s → Fit (old judge_of own tail s)
  old_fits own tail s h =
      if_fits (is_blank_text tail) _ _ h
      (by_name_fits (spec_read own tail) (reads_old judge_of) s h (λ spec. tried_fits (λ _. s) (λ pages s. loads spec.name.stem (program_on judge_of pages) s) (reads_pages spec.name spec.code) (λ _. h) (λ pages s g. loads_fits spec.name.stem (program_on judge_of pages) s g)))

  saves_fits : (own : Account) (kind : OpenKind) (tail : List ℕ) (s : Session Position) → StopFits p s → Fit (saves own kind tail s)
  saves_fits own kind tail s h =
      by_name_fits (spec_or_own own s.name tail) (saves_as kind) s h (λ spec. tried_fits (λ _. s) (λ _ s. answered [] s) (writes_pages spec.name kind spec.code (saved_pages s.lines)) (λ _. h) (λ _ s g. g))

  unsaves_fits : (own : Account) (tail : List ℕ) (s : Session Position) → StopFits p s → Fit (unsaves own tail s)
  unsaves_fits own tail s h = by_name_fits (spec_or_own own s.name tail) kills_file s h (λ spec. tried_fits (λ _. s) (λ _ s. answered [] s) (kills spec.name) (λ _. h) (λ _ s g. g))

  catalogs_of_fits : (owner : Account) (s : Session Position) → StopFits p s → Fit (catalogs_of owner s)
  catalogs_of_fits owner s h = tried_fits (with_screen s) (λ _ s. answered [] s) (catalog_from owner 0 MOST_FILES s.job.screen) (λ _. h) (λ _ s g. g)

  catalogs_fits : (own : Account) (of : Cataloging) (s : Session Position) → StopFits p s → Fit (catalogs own of s)
  catalogs_fits own OfOwn s h = catalogs_of_fits own s h
  catalogs_fits own (OfAccount owner) s h = catalogs_of_fits owner s h
  catalogs_fits own OfNone s h = h

  on_printer_fits : (act : FileAct (Unit {0})) (s : Session Position) → StopFits p s → Fit (on_printer act s)
  on_printer_fits act s h = tried_fits (λ _. s) (λ _ s. answered [] s) act (λ _. h) (λ _ s g. g)

  queues_fits : (named : Result Spec ℕ) (s : Session Position) → StopFits p s → Fit (queues_by named s)
  queues_fits (Ok spec) s h = on_printer_fits (prints_file spec.name spec.code) s h
  queues_fits (Err number) s h = h

  pub rests_fits : (own : Account) (command : Command) (s : Session Position) → StopFits p s → Fit (rests judge_of own command s)
  rests_fits own Bye s h = λ reply. h
  rests_fits own (New naming) s h = new_fits naming s h
  rests_fits own (Rename naming) s h = renames_fits naming s h
  rests_fits own (ListLines with_name range) s h = lists_fits with_name range s h
  rests_fits own (Delete range) s h = deletes_fits range s h
  rests_fits own (Old tail) s h = old_fits own tail s h
  rests_fits own (Save kind tail) s h = saves_fits own kind tail s h
  rests_fits own (Unsave tail) s h = unsaves_fits own tail s h
  rests_fits own (Catalog of) s h = catalogs_fits own of s h
  rests_fits own Assign s h = on_printer_fits assigns s h
  rests_fits own Deassign s h = on_printer_fits deassigns s h
  rests_fits own (Queue tail) s h = queues_fits (listed_spec own tail) s h
  rests_fits own (Numbered number rest) s h = edit_fits (edited judge_of number rest s.lines) s h
  rests_fits own command s h = h

  entered_fits : (account : Account) (reply : Reply) (s : Session Position) → StopFits p s → Fit (entered account reply s)
  entered_fits account Done s h = h
  entered_fits account (Failed number) s h = h
  entered_fits account reply s h = h

  hello_fits : (login : Option Login) (s : Session Position) → StopFits p s → Fit (hello login s)
  hello_fits None s h = h
  hello_fits (Some login) s h = λ reply. entered_fits login.account (counts_as (request.Login login.account login.password) reply) s h

  pub visitor_fits : (command : Command) (s : Session Position) → StopFits p s → Fit (visitor_acts command s)
  visitor_fits (Hello login) s h = hello_fits login s h
  visitor_fits command s h = h

  pub leave_fits : (account : Option Account) (s : Session Position) → StopFits p s → Fit (leave account s)
  leave_fits None s h = h
  leave_fits (Some account) s h = λ reply. h

-- WHAT A RUN LEADS TO

-- after an end the session continues, unless the job's calls are used up
pub outlived_by : (during : Break (program.Leaving Spot) → Job Spot → Session Spot) (s : Session Spot) (why : Exit) (j : Job Spot) → is_gone why ≡ false → talk.outlived during s (break_of why) j ≡ Gives tt (during (break_of why) j)
outlived_by during s exit.Gone j e = absurd (cc)
outlived_by during s (exit.Fault fault) j e = refl
outlived_by during s (exit.Halt halt) j e = refl
outlived_by during s exit.Ended j e = refl
outlived_by during s (exit.Stopped spot) j e = refl
outlived_by during s (exit.StoppedInside home) j e = refl
outlived_by during s exit.Chained j e = refl

pub gone_by : (during : Break (program.Leaving Spot) → Job Spot → Session Spot) (s : Session Spot) (why : Exit) → is_gone why ≡ true → talk.outlived during s (break_of why) s.job ≡ Breaks Gone s
gone_by during s exit.Gone e = refl
gone_by during s (exit.Fault fault) e = absurd (cc)
gone_by during s (exit.Halt halt) e = absurd (cc)
gone_by during s exit.Ended e = absurd (cc)
gone_by during s (exit.Stopped spot) e = absurd (cc)
gone_by during s (exit.StoppedInside home) e = absurd (cc)
gone_by during s exit.Chained e = absurd (cc)

pub ruleset outlived = (outlived_by, gone_by)

-- NEW
pub emptied_by : (s : Session Spot) (lines : Lines) (j : Job Spot) → lines ≡ [] → j ≡ cleared [] s.job → record s { lines = lines; job = j; stop = None } ≡ emptied s
emptied_by s lines j e f = λ i. record s { lines = e i; job = f i; stop = None }

-- what is written to the screen
pub said : (s : Session Spot) (text screen : List ℕ) → screen ≡ s.job.screen ++ text → says text s ≡ with_job (record s.job { screen = screen }) s
said s text screen wrote = ap (λ (bytes : List ℕ). with_job (record s.job { screen = bytes }) s) (sym wrote)

pub headed_lines : (with_name : Bool) (s : Session Position) → (headed with_name s).lines ≡ s.lines
headed_lines true s = refl
headed_lines false s = refl
