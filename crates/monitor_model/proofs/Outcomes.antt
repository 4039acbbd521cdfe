-- The ways in which a call is answered. What holds of each of them holds of every answer.
use Rattle.std.proofs.Common.{◌≡◌, ◌≢◌, ℕ, ◌≤◌, Bool, true, false, cond, List, [], ◌∷◌, length, refl, Some, None}
use Rattle.std.specs.Prelude.{Option, not}
use Rattle.std.proofs.lemmas.Bool.{not-false, ltb-false}
use Rattle.monitor_calls.specs.declared.names.Account.{Account}
use Rattle.monitor_calls.specs.declared.files.FileName.{FileName}
use Rattle.monitor_calls.specs.declared.files.OpenKind.{OpenKind}
use Rattle.monitor_calls.specs.declared.files.OpenKind.TheVariants.{Input, Output, Either, Fresh}
use Rattle.monitor_calls.specs.declared.calls.Request.{Request}
use Rattle.monitor_calls.specs.declared.calls.Request.TheVariants.{Login, Logout, OpenFile, CloseFile, Get, Put, GetRecord, PutRecord, Unlock, Kill, Rename, Directory, Declare, Remove, Send, Receive, Sleep, Tick, Assign, Deassign, OpenPrinter, Print, ClosePrinter, Status}
use Rattle.monitor_calls.specs.declared.calls.Reply.{Reply}
use Rattle.monitor_calls.specs.declared.calls.Reply.TheVariants.{Done, Block, Record, State as StateOf, Failed, Expired}
use Rattle.monitor_calls.specs.Requests.{is_logout}
use Rattle.monitor_model.specs.declared.entries.Letter.{Letter}
use Rattle.monitor_model.specs.declared.rights.Right.TheVariants.{Write}
use Rattle.monitor_model.specs.Files.{is_file, remove, remake}
use Rattle.monitor_model.specs.Jobs.{account_of, calls_of, channel_of, is_open, is_open_file, log_in}
use Rattle.monitor_model.specs.Printing.{Printer, has_printer, is_anothers, is_printing, assign, open_printer, close_printer}
use Rattle.monitor_model.specs.Queues.{Receiver, is_full, declare, drop_receiver, send, receive}
use Rattle.monitor_model.specs.State.{State, entry_of}
use Rattle.monitor_model.specs.Answer.{attempt, is_password_of, may, has_right, making, to_open_there, to_open_new, opened_there, opened_made, open_there, open_new, code_or_60, to_get, got, page_read, pages_read, to_get_record, to_put, to_put_record, written_by, unlocked, closed_by, to_change, renamed_by, file_listed, listed, letter_from, oldest_of, told, refusals, done, answer_table, counted, ended, is_last, answer_counted, answer_by, answer}
use Rattle.monitor_model.specs.Listings.{is_finish}
use Rattle.monitor_model.specs.Spans.{is_end}
use Rattle.monitor_model.specs.Rights.{is_close}
use Rattle.monitor_model.proofs.Tools.{none_of}

-- no test of these refusals holds
abbrev pub NoneApply : List (Bool × ℕ) → Type 0
NoneApply [] = Unit {0}
NoneApply (refusal ∷ refusals) = (refusal.0 ≡ false) × NoneApply refusals

-- what holds of each refusal and, if none applies, of what is done
pub attempt_cases : (P : State × Reply → Type 0) (m : State) (refusals : List (Bool × ℕ)) (done : State × Reply) → ((n : ℕ) → P (m, Failed n)) → (NoneApply refusals → P done) → P (attempt m refusals done)
attempt_cases P m [] done refused passed = passed tt
attempt_cases P m (refusal ∷ refusals) done refused passed =
    elim (refusal.0) as (λ v. refusal.0 ≡ v → P (cond v (m, Failed refusal.1) (attempt m refusals done))) [
      | true ↦ λ e. refused refusal.1
      | false ↦ λ e. attempt_cases P m refusals done refused (λ rest. passed (e, rest))
    ] refl

-- WHAT A CALL DOES, once it is counted

-- a call with this reply that frees no block and closes no channel
pub record IsMild (request : Request) (reply : Reply) : Type 0 where
  pub no_end : (channel : ℕ) → is_end channel request reply ≡ false
  pub no_close : (channel : ℕ) → is_close channel request reply ≡ false

-- how the receivers change
pub data Posting (s : State) (job : ℕ) (caller : Account) (receivers : List Receiver) : Type 0 where
  declares : (name : List ℕ) (most : ℕ) → NoneApply (refusals s job caller (Declare name most)) → receivers ≡ declare s.receivers job name most → Posting s job caller receivers
  drops : receivers ≡ drop_receiver s.receivers job → Posting s job caller receivers
  sends : (name : List ℕ) (letter : Letter) → is_full s.receivers name ≡ false → receivers ≡ send s.receivers name letter → Posting s job caller receivers
  hands_out : receivers ≡ receive s.receivers job → Posting s job caller receivers

-- how the printer's owner changes, and by which request
pub data Printing (s : State) (job : ℕ) (request : Request) (printer : Printer) : Type 0 where
  assigns : request ≡ Assign → is_anothers s.printer job ≡ false → printer ≡ assign s.printer job → Printing s job request printer
  deassigns : request ≡ Deassign → has_printer s.printer job ≡ true → is_printing s.printer job ≡ false → printer ≡ None → Printing s job request printer
  begins : request ≡ OpenPrinter → is_anothers s.printer job ≡ false → printer ≡ open_printer s.printer job → Printing s job request printer
  finishes : request ≡ ClosePrinter → is_printing s.printer job ≡ true → printer ≡ close_printer s.printer job → Printing s job request printer

-- R holds of whatever the table's entries do
pub record Deeds (s : State) (job : ℕ) (caller : Account) (R : Request → State × Reply → Type 0) : Type 0 where
  pub idle : (request : Request) (reply : Reply) → IsMild request reply → is_finish request reply ≡ false → ((n : ℕ) → reply ≢ Failed n) → R request (s, reply)
  pub posts : (request : Request) (reply : Reply) → IsMild request reply → is_finish request reply ≡ false → ((n : ℕ) → reply ≢ Failed n) → (receivers : List Receiver) → Posting s job caller receivers → R request (record s { receivers = receivers }, reply)
  pub prints : (request : Request) → IsMild request Done → (printer : Printer) → Printing s job request printer → R request (record s { printer = printer }, Done)
  pub opens : (channel : ℕ) (name : FileName) (kind : OpenKind) (update : Bool) (code : Option ℕ) → channel ≤ 12 → channel_of s.jobs job channel ≡ None → is_file s.files name ≡ true → has_right s caller name ≡ true → R (OpenFile channel name kind update code) (opened_there s job caller channel name update)
  pub makes : (channel : ℕ) (name : FileName) (kind : OpenKind) (update : Bool) (code : Option ℕ) → channel ≤ 12 → channel_of s.jobs job channel ≡ None → is_file s.files name ≡ false → NoneApply (making s caller name) → R (OpenFile channel name kind update code) (open_new s job channel name update code)
  pub remakes : (channel : ℕ) (name : FileName) (kind : OpenKind) (update : Bool) (code : Option ℕ) → channel ≤ 12 → channel_of s.jobs job channel ≡ None → is_file s.files name ≡ true → may s caller name Write ≡ true → is_open_file s.jobs name ≡ false → kind ≡ Output → R (OpenFile channel name kind update code) (opened_made s (remake s.files name (code_or_60 code)) job channel name update)
  pub closes : (channel : ℕ) → is_open s.jobs job channel ≡ true → R (CloseFile channel) (closed_by s job channel, Done)
  pub gets : (channel block : ℕ) → is_open s.jobs job channel ≡ true → NoneApply (to_get s job channel block) → R (Get channel block) (got s job channel block 1, Block (page_read s job channel block))
  pub puts : (channel block : ℕ) (page : List ℕ) → is_open s.jobs job channel ≡ true → NoneApply (to_put s job channel block) → R (Put channel block page) (written_by s job channel block (page ∷ []), Done)
  pub gets_record : (channel block count : ℕ) → is_open s.jobs job channel ≡ true → NoneApply (to_get_record s job channel block count) → R (GetRecord channel block count) (got s job channel block (length (pages_read s job channel block count)), Record (pages_read s job channel block count))
  pub puts_record : (channel block : ℕ) (pages : List (List ℕ)) → is_open s.jobs job channel ≡ true → NoneApply (to_put_record s job channel block (length pages)) → R (PutRecord channel block pages) (written_by s job channel block pages, Done)
  pub unlocks : (channel : ℕ) → is_open s.jobs job channel ≡ true → R (Unlock channel) (unlocked s job channel, Done)
  pub kills : (name : FileName) → NoneApply (to_change s caller name) → R (Kill name) (record s { files = remove s.files name }, Done)
  pub renames : (old new : FileName) (code : Option ℕ) → NoneApply (refusals s job caller (Rename old new code)) → R (Rename old new code) (renamed_by s old new code, Done)

module _ (s : State) (job : ℕ) (caller : Account) (R : Request → State × Reply → Type 0) (r : Deeds s job caller R) where
  there : (kind : OpenKind) (channel : ℕ) (name : FileName) (update : Bool) (code : Option ℕ) → channel ≤ 12 → channel_of s.jobs job channel ≡ None → is_file s.files name ≡ true → NoneApply (to_open_there kind s caller name) → R (OpenFile channel name kind update code) (open_there kind s job caller channel name update code)
  there Input channel name update code low free is h =
      r.opens channel name Input update code low free is (not-false _ h.0)
  there Either channel name update code low free is h =
      r.opens channel name Either update code low free is (not-false _ h.0)
  there Output channel name update code low free is h =
      r.remakes channel name Output update code low free is (not-false _ h.0) h.1.0 refl
  there Fresh channel name update code low free is h = absurd (cc)

  new : (kind : OpenKind) (channel : ℕ) (name : FileName) (update : Bool) (code : Option ℕ) → channel ≤ 12 → channel_of s.jobs job channel ≡ None → is_file s.files name ≡ false → NoneApply (to_open_new kind s caller name) → R (OpenFile channel name kind update code) (open_new s job channel name update code)
  new Input channel name update code low free none h = absurd (cc)
  new Either channel name update code low free none h =
      r.makes channel name Either update code low free none h
  new Output channel name update code low free none h =
      r.makes channel name Output update code low free none h
  new Fresh channel name update code low free none h =
      r.makes channel name Fresh update code low free none h

  open_is : (kind : OpenKind) (channel : ℕ) (name : FileName) (update : Bool) (code : Option ℕ) → NoneApply (refusals s job caller (OpenFile channel name kind update code)) → R (OpenFile channel name kind update code) (done s job caller (OpenFile channel name kind update code))
  open_is kind channel name update code h =
      let low = ltb-false 12 channel h.0 in
      let free = none_of (channel_of s.jobs job channel) h.1.0 in
      elim (is_file s.files name) as (λ v. is_file s.files name ≡ v → NoneApply (cond v (to_open_there kind s caller name) (to_open_new kind s caller name)) → R (OpenFile channel name kind update code) (cond v (open_there kind s job caller channel name update code) (open_new s job channel name update code))) [
        | true ↦ λ is passed. there kind channel name update code low free is passed
        | false ↦ λ none passed. new kind channel name update code low free none passed
      ] refl h.1.1

  pub done_is : (request : Request) → is_logout request ≡ false → NoneApply (refusals s job caller request) → R request (done s job caller request)
  done_is (Login account password) stays h = absurd (cc)
  done_is Logout stays h = absurd (cc)
  done_is (OpenFile channel name kind update code) stays h =
      open_is kind channel name update code h
  done_is (CloseFile channel) stays h = r.closes channel (not-false _ h.1.0)
  done_is (Get channel block) stays h = r.gets channel block (not-false _ h.1.0) h.1.1
  done_is (Put channel block page) stays h = r.puts channel block page (not-false _ h.1.0) h.1.1
  done_is (GetRecord channel block count) stays h = r.gets_record channel block count (not-false _ h.1.0) h.1.1
  done_is (PutRecord channel block pages) stays h = r.puts_record channel block pages (not-false _ h.1.0) h.1.1
  done_is (Unlock channel) stays h = r.unlocks channel (not-false _ h.1.0)
  done_is (Kill name) stays h = r.kills name h
  done_is (Rename old new code) stays h = r.renames old new code h
  done_is (Directory owner index) stays h =
      r.idle (Directory owner index) (listed caller (file_listed s owner index)) (record { no_end = λ c. refl; no_close = λ c. refl }) refl (λ n e. cc)
  done_is (Declare name most) stays h =
      r.posts (Declare name most) Done (record { no_end = λ c. refl; no_close = λ c. refl }) refl (λ n e. cc) _ (declares name most h refl)
  done_is Remove stays h =
      r.posts Remove Done (record { no_end = λ c. refl; no_close = λ c. refl }) refl (λ n e. cc) _ (drops refl)
  done_is (Send name text) stays h =
      r.posts (Send name text) Done (record { no_end = λ c. refl; no_close = λ c. refl }) refl (λ n e. cc) _ (sends name (letter_from job caller text) h.1.1.0 refl)
  done_is Receive stays h =
      r.posts Receive (told (oldest_of s job)) (record { no_end = λ c. refl; no_close = λ c. refl }) refl (λ n e. cc) _ (hands_out refl)
  done_is (Sleep seconds) stays h =
      r.idle (Sleep seconds) Done (record { no_end = λ c. refl; no_close = λ c. refl }) refl (λ n e. cc)
  done_is Tick stays h =
      r.idle Tick Done (record { no_end = λ c. refl; no_close = λ c. refl }) refl (λ n e. cc)
  done_is Assign stays h =
      r.prints Assign (record { no_end = λ c. refl; no_close = λ c. refl }) _ (assigns refl h.0 refl)
  done_is Deassign stays h =
      r.prints Deassign (record { no_end = λ c. refl; no_close = λ c. refl }) _ (deassigns refl (not-false _ h.0) h.1.0 refl)
  done_is OpenPrinter stays h =
      r.prints OpenPrinter (record { no_end = λ c. refl; no_close = λ c. refl }) _ (begins refl h.0 refl)
  done_is (Print text) stays h =
      r.idle (Print text) Done (record { no_end = λ c. refl; no_close = λ c. refl }) refl (λ n e. cc)
  done_is ClosePrinter stays h =
      r.prints ClosePrinter (record { no_end = λ c. refl; no_close = λ c. refl }) _ (finishes refl (not-false _ h.0) refl)
  done_is Status stays h =
      r.idle Status (StateOf job caller (calls_of s.jobs job)) (record { no_end = λ c. refl; no_close = λ c. refl }) refl (λ n e. cc)

  refused_mild : (n : ℕ) (request : Request) → is_logout request ≡ false → IsMild request (Failed n)
  refused_mild n Logout stays = absurd (cc)
  refused_mild n request stays = record { no_end = λ c. refl; no_close = λ c. refl }

  -- and of whatever they refuse
  pub table_is : ((request : Request) (n : ℕ) → IsMild request (Failed n) → R request (s, Failed n)) → (request : Request) → is_logout request ≡ false → R request (answer_table s job caller request)
  table_is refused request stays =
      attempt_cases (R request) s (refusals s job caller request) (done s job caller request) (λ n. refused request n (refused_mild n request stays)) (done_is request stays)

-- EVERY CALL

-- R holds of every way in which a call is answered
pub record Outcomes (m : State) (job : ℕ) (R : Request → State × Reply → Type 0) : Type 0 where
  pub turned_away : (request : Request) → account_of m.jobs job ≡ None → R request (m, Failed 5)
  pub leaves : account_of m.jobs job ≡ None → R Logout (m, Done)
  pub logs_in : (account : Account) (password : List ℕ) → account_of m.jobs job ≡ None → is_password_of password (entry_of m.accounts account) ≡ true → R (Login account password) (record m { jobs = log_in m.jobs job account }, Done)
  pub stops : (caller : Account) → account_of m.jobs job ≡ Some caller → R Logout (ended m job, Done)
  pub expires : (request : Request) (caller : Account) → account_of m.jobs job ≡ Some caller → R request (ended m job, Expired)
  pub table : (caller : Account) → account_of m.jobs job ≡ Some caller → is_last m job caller ≡ false → (request : Request) → is_logout request ≡ false → R request (answer_table (counted m job) job caller request)

module _ (m : State) (job : ℕ) (R : Request → State × Reply → Type 0) (o : Outcomes m job R) where
  visitor : (request : Request) → account_of m.jobs job ≡ None → R request (answer_by None m job request)
  visitor (Login account password) none =
      let request : Request = Login account password in
      attempt_login (is_password_of password (entry_of m.accounts account)) refl where
        attempt_login : (b : Bool) → is_password_of password (entry_of m.accounts account) ≡ b → R (Login account password) (cond (not b) (m, Failed 5) (record m { jobs = log_in m.jobs job account }, Done))
        attempt_login true e = o.logs_in account password none e
        attempt_login false e = o.turned_away (Login account password) none
  visitor Logout none = o.leaves none
  visitor request none = o.turned_away request none

  limited : (request : Request) (caller : Account) → account_of m.jobs job ≡ Some caller → is_logout request ≡ false → R request (cond (is_last m job caller) (ended m job, Expired) (answer_table (counted m job) job caller request))
  limited request caller some stays =
      elim (is_last m job caller) as (λ v. is_last m job caller ≡ v → R request (cond v (ended m job, Expired) (answer_table (counted m job) job caller request))) [
        | true ↦ λ last. o.expires request caller some
        | false ↦ λ more. o.table caller some more request stays
      ] refl

  by_account : (request : Request) (caller : Account) → account_of m.jobs job ≡ Some caller → R request (answer_counted m job caller request)
  by_account Logout caller some = o.stops caller some
  by_account request caller some = limited request caller some refl

  -- what holds of every outcome holds of the answer
  pub answer_outcomes : (request : Request) → R request (answer m job request)
  answer_outcomes request =
      (elim (account_of m.jobs job) as (λ v. account_of m.jobs job ≡ v → R request (answer_by v m job request)) [
        | None ↦ λ none. visitor request none
        | Some caller ↦ λ some. by_account request caller some
      ]) refl
