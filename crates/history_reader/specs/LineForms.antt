-- The requests and replies of lines, found by their words. No promise of the program uses them.
use Rattle.std.specs.Prelude.{ℕ, if◌then◌else◌, List, Option, Some, None, bytes_eq, codes}
use Rattle.basic_values.specs.Cuts.{◌>>=◌, behind}
use Rattle.monitor_calls.specs.declared.calls.Entry.{Entry}
use Rattle.monitor_calls.specs.declared.calls.Request.{Request}
use Rattle.monitor_calls.specs.declared.calls.Request.TheVariants.{Login, Logout, OpenFile, CloseFile, Get, Put, GetRecord, PutRecord, Unlock, Kill, Rename, Directory, Declare, Remove, Send, Receive, Sleep, Tick, Assign, Deassign, OpenPrinter, Print, ClosePrinter, Status}
use Rattle.monitor_calls.specs.declared.calls.Reply.{Reply}
use Rattle.monitor_calls.specs.declared.calls.Reply.TheVariants.{Done, Opened, Block, Record, Name, Message, State, Failed, Expired}
use Rattle.deck_model.specs.Histories.{entry_line}
use Rattle.history_reader.specs.LineFields.{word_read, field_by, byte_read, half_read, long_read, account_read, name_read, letters_read, truth_read, kind_read, code_read, blocks_read, password_read, message_read, one_page_read, page_run_read}

-- what was found with the text after it, or else what the other finds
abbrev pub with_rest : {A B : Type 0} → Option A → B → Option (A × B) → Option (A × B)
with_rest None rest other = other
with_rest (Some a) rest other = Some (a, rest)

-- REQUESTS: those of one word

unfoldable pub bare_read : List ℕ → Option Request
bare_read word =
    if bytes_eq word (codes "TICK") then Some Tick
    else if bytes_eq word (codes "LOGOUT") then Some Logout
    else if bytes_eq word (codes "STATUS") then Some Status
    else if bytes_eq word (codes "REMOVE") then Some Remove
    else if bytes_eq word (codes "RECEIVE") then Some Receive
    else if bytes_eq word (codes "ASSIGN") then Some Assign
    else if bytes_eq word (codes "DEASSIGN") then Some Deassign
    else if bytes_eq word (codes "LPOPEN") then Some OpenPrinter
    else if bytes_eq word (codes "LPCLOSE") then Some ClosePrinter else None

-- those with fields, each with what comes after it

unfoldable pub login_read : List ℕ → Option (Request × List ℕ)
login_read text = do
  account ← field_by account_read text
  password ← field_by password_read account.1
  Some (Login account.0 password.0, password.1)

unfoldable pub open_read : List ℕ → Option (Request × List ℕ)
open_read text = do
  channel ← field_by byte_read text
  name ← field_by name_read channel.1
  kind ← field_by kind_read name.1
  update ← field_by truth_read kind.1
  code ← field_by code_read update.1
  Some (OpenFile channel.0 name.0 kind.0 update.0 code.0, code.1)

unfoldable pub close_read : List ℕ → Option (Request × List ℕ)
close_read text = do
  channel ← field_by byte_read text
  Some (CloseFile channel.0, channel.1)

unfoldable pub get_read : List ℕ → Option (Request × List ℕ)
get_read text = do
  channel ← field_by byte_read text
  block ← field_by half_read channel.1
  Some (Get channel.0 block.0, block.1)

unfoldable pub put_read : List ℕ → Option (Request × List ℕ)
put_read text = do
  channel ← field_by byte_read text
  block ← field_by half_read channel.1
  page ← field_by one_page_read block.1
  Some (Put channel.0 block.0 page.0, page.1)

unfoldable pub getrec_read : List ℕ → Option (Request × List ℕ)
getrec_read text = do
  channel ← field_by byte_read text
  block ← field_by half_read channel.1
  count ← field_by byte_read block.1
  Some (GetRecord channel.0 block.0 count.0, count.1)

unfoldable pub putrec_read : List ℕ → Option (Request × List ℕ)
putrec_read text = do
  channel ← field_by byte_read text
  block ← field_by half_read channel.1
  pages ← field_by page_run_read block.1
  Some (PutRecord channel.0 block.0 pages.0, pages.1)

unfoldable pub unlock_read : List ℕ → Option (Request × List ℕ)
unlock_read text = do
  channel ← field_by byte_read text
  Some (Unlock channel.0, channel.1)

unfoldable pub kill_read : List ℕ → Option (Request × List ℕ)
kill_read text = do
  name ← field_by name_read text
  Some (Kill name.0, name.1)

unfoldable pub rename_read : List ℕ → Option (Request × List ℕ)
rename_read text = do
  old ← field_by name_read text
  new ← field_by name_read old.1
  code ← field_by code_read new.1
  Some (Rename old.0 new.0 code.0, code.1)

unfoldable pub directory_read : List ℕ → Option (Request × List ℕ)
directory_read text = do
  owner ← field_by account_read text
  index ← field_by half_read owner.1
  Some (Directory owner.0 index.0, index.1)

unfoldable pub declare_read : List ℕ → Option (Request × List ℕ)
declare_read text = do
  name ← field_by letters_read text
  most ← field_by byte_read name.1
  Some (Declare name.0 most.0, most.1)

unfoldable pub send_read : List ℕ → Option (Request × List ℕ)
send_read text = do
  name ← field_by letters_read text
  message ← field_by message_read name.1
  Some (Send name.0 message.0, message.1)

unfoldable pub sleep_read : List ℕ → Option (Request × List ℕ)
sleep_read text = do
  seconds ← field_by half_read text
  Some (Sleep seconds.0, seconds.1)

unfoldable pub print_read : List ℕ → Option (Request × List ℕ)
print_read text = do
  message ← field_by message_read text
  Some (Print message.0, message.1)

-- by their words

unfoldable pub job_request_read : List ℕ → List ℕ → Option (Request × List ℕ)
job_request_read word rest =
    if bytes_eq word (codes "LOGIN") then login_read rest
    else if bytes_eq word (codes "DECLARE") then declare_read rest
    else if bytes_eq word (codes "SEND") then send_read rest
    else if bytes_eq word (codes "SLEEP") then sleep_read rest
    else if bytes_eq word (codes "LPPRINT") then print_read rest else None

unfoldable pub block_request_read : List ℕ → List ℕ → Option (Request × List ℕ)
block_request_read word rest =
    if bytes_eq word (codes "GET") then get_read rest
    else if bytes_eq word (codes "PUT") then put_read rest
    else if bytes_eq word (codes "GETREC") then getrec_read rest
    else if bytes_eq word (codes "PUTREC") then putrec_read rest
    else if bytes_eq word (codes "UNLOCK") then unlock_read rest else job_request_read word rest

unfoldable pub file_request_read : List ℕ → List ℕ → Option (Request × List ℕ)
file_request_read word rest =
    if bytes_eq word (codes "OPEN") then open_read rest
    else if bytes_eq word (codes "CLOSE") then close_read rest
    else if bytes_eq word (codes "KILL") then kill_read rest
    else if bytes_eq word (codes "RENAME") then rename_read rest
    else if bytes_eq word (codes "DIRECTORY") then directory_read rest else block_request_read word rest

-- the request that a text begins with, and what comes after it
unfoldable pub request_read : List ℕ → Option (Request × List ℕ)
request_read text =
    with_rest (bare_read (word_read text).0) (word_read text).1
    (file_request_read (word_read text).0 (word_read text).1)

-- REPLIES

unfoldable pub opened_read : List ℕ → Option Reply
opened_read text = do
  blocks ← field_by half_read text
  read ← field_by truth_read blocks.1
  write ← field_by truth_read read.1
  Some (Opened blocks.0 read.0 write.0)

unfoldable pub block_read : List ℕ → Option Reply
block_read text = do
  page ← field_by one_page_read text
  Some (Block page.0)

unfoldable pub record_read : List ℕ → Option Reply
record_read text = do
  pages ← field_by page_run_read text
  Some (Record pages.0)

unfoldable pub file_reply_read : List ℕ → Option Reply
file_reply_read text = do
  name ← field_by name_read text
  code ← field_by byte_read name.1
  blocks ← field_by blocks_read code.1
  Some (Name name.0 code.0 blocks.0)

unfoldable pub letter_read : List ℕ → Option Reply
letter_read text = do
  job ← field_by long_read text
  account ← field_by account_read job.1
  message ← field_by message_read account.1
  Some (Message job.0 account.0 message.0)

unfoldable pub state_read : List ℕ → Option Reply
state_read text = do
  job ← field_by long_read text
  account ← field_by account_read job.1
  calls ← field_by half_read account.1
  Some (State job.0 account.0 calls.0)

unfoldable pub failed_read : List ℕ → Option Reply
failed_read text = do
  number ← field_by byte_read text
  Some (Failed number.0)

unfoldable pub told_reply_read : List ℕ → List ℕ → Option Reply
told_reply_read word rest =
    if bytes_eq word (codes "NAME") then file_reply_read rest
    else if bytes_eq word (codes "MESSAGE") then letter_read rest
    else if bytes_eq word (codes "STATE") then state_read rest else None

-- the reply that a text begins with
unfoldable pub reply_by : List ℕ → List ℕ → Option Reply
reply_by word rest =
    if bytes_eq word (codes "DONE") then Some Done
    else if bytes_eq word (codes "FAILED") then failed_read rest
    else if bytes_eq word (codes "OPENED") then opened_read rest
    else if bytes_eq word (codes "BLOCK") then block_read rest
    else if bytes_eq word (codes "RECORD") then record_read rest
    else if bytes_eq word (codes "EXPIRED") then Some Expired else told_reply_read word rest

unfoldable pub reply_read : List ℕ → Option Reply
reply_read text = reply_by (word_read text).0 (word_read text).1

-- ENTRIES: the job, the request, a word between them, and the reply
unfoldable pub entry_read : List ℕ → Option Entry
entry_read line = do
  job ← field_by long_read line
  request ← request_read job.1
  reply ← reply_read (word_read request.1).1
  Some (record { job = job.0; request = request.0; reply = reply })

-- the entry of a line, and what comes after it in a text that begins with the line
unfoldable pub taken_read : List ℕ → List ℕ → Option (Entry × List ℕ)
taken_read line text = do
  entry ← entry_read line
  rest ← behind (entry_line entry) text
  Some (entry, rest)
