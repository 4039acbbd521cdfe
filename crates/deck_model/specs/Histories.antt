-- The text of a history: how many entries it has, and a line for each.
use Rattle.std.specs.Prelude.{◌≡◌, ◌⊎◌, ℕ, suc, ◌+◌, ◌/◌, ◌%◌, Bool, true, false, nat_lt, if◌then◌else◌, List, [], ◌∷◌, ◌++◌, length, Option, Some, None, codes}
use Rattle.std.specs.List.{flat_map}
use Rattle.std.specs.Fmt.{decimal, digits_onto}
use Rattle.monitor_calls.specs.declared.names.Account.{Account}
use Rattle.monitor_calls.specs.declared.calls.Entry.{Entry}
use Rattle.monitor_calls.specs.declared.calls.Request.{Request}
use Rattle.monitor_calls.specs.declared.calls.Request.TheVariants.{Login, Logout, OpenFile, CloseFile, Get, Put, GetRecord, PutRecord, Unlock, Kill, Rename, Directory, Declare, Remove, Send, Receive, Sleep, Tick, Assign, Deassign, OpenPrinter, Print, ClosePrinter, Status}
use Rattle.monitor_calls.specs.declared.calls.Reply.{Reply}
use Rattle.monitor_calls.specs.declared.calls.Reply.TheVariants.{Done, Opened, Block, Record, Name, Message, State, Failed, Expired}
use Rattle.monitor_calls.specs.declared.files.FileName.{FileName}
use Rattle.monitor_calls.specs.declared.files.OpenKind.{OpenKind}
use Rattle.monitor_calls.specs.declared.files.OpenKind.TheVariants.{Input, Output, Either, Fresh}
use Rattle.monitor_calls.specs.NameTexts.{name_text}

-- the sign of a number below 16
abbrev pub hex_sign : ℕ → ℕ
hex_sign n = if nat_lt n 10 then 48 + n else 87 + n

-- two signs for each byte, the high one first
abbrev pub hex_text : List ℕ → List ℕ
hex_text [] = []
hex_text (byte ∷ bytes) = hex_sign (byte / 16) ∷ hex_sign (byte % 16) ∷ hex_text bytes

-- the same, and a dash if there are no bytes
abbrev pub hex_or_dash : List ℕ → List ℕ
hex_or_dash [] = codes "-"
hex_or_dash (byte ∷ bytes) = hex_text (byte ∷ bytes)

-- the blocks of a record one after the other, and a dash if it has none
abbrev pub pages_text : List (List ℕ) → List ℕ
pages_text [] = codes "-"
pages_text (page ∷ pages) = flat_map hex_text (page ∷ pages)

-- p,n
abbrev pub account_digits : Account → List ℕ
account_digits account = decimal account.project ++ codes "," ++ decimal account.programmer

-- 1 if it is so, else 0
abbrev pub truth_text : Bool → List ℕ
truth_text true = codes "1"
truth_text false = codes "0"

-- a number, and a dash if there is none
abbrev pub number_or_dash : Option ℕ → List ℕ
number_or_dash None = codes "-"
number_or_dash (Some n) = decimal n

-- the letters of a short name, and a dash if it has none
abbrev pub letters_or_dash : List ℕ → List ℕ
letters_or_dash [] = codes "-"
letters_or_dash (letter ∷ letters) = letter ∷ letters

-- a name, as it is printed
unfoldable pub printed_name : FileName → List ℕ
printed_name name = name_text name

abbrev pub kind_text : OpenKind → List ℕ
kind_text Input = codes "INPUT"
kind_text Output = codes "OUTPUT"
kind_text Either = codes "EITHER"
kind_text Fresh = codes "FRESH"

-- the fields after a word, each with a space before it
abbrev pub fields : List (List ℕ) → List ℕ
fields [] = []
fields (field ∷ others) = codes " " ++ field ++ fields others

abbrev pub request_text : Request → List ℕ
request_text (Login account password) = codes "LOGIN" ++ fields (account_digits account ∷ hex_or_dash password ∷ [])
request_text Logout = codes "LOGOUT"
request_text (OpenFile channel name kind update code) =
    codes "OPEN"
    ++ fields (decimal channel ∷ printed_name name ∷ kind_text kind ∷ truth_text update ∷ number_or_dash code ∷ [])
request_text (CloseFile channel) = codes "CLOSE" ++ fields (decimal channel ∷ [])
request_text (Get channel block) = codes "GET" ++ fields (decimal channel ∷ decimal block ∷ [])
request_text (Put channel block page) = codes "PUT" ++ fields (decimal channel ∷ decimal block ∷ hex_or_dash page ∷ [])
request_text (GetRecord channel block count) =
    codes "GETREC" ++ fields (decimal channel ∷ decimal block ∷ decimal count ∷ [])
request_text (PutRecord channel block pages) =
    codes "PUTREC" ++ fields (decimal channel ∷ decimal block ∷ pages_text pages ∷ [])
request_text (Unlock channel) = codes "UNLOCK" ++ fields (decimal channel ∷ [])
request_text (Kill name) = codes "KILL" ++ fields (printed_name name ∷ [])
request_text (Rename old new code) = codes "RENAME" ++ fields (printed_name old ∷ printed_name new ∷ number_or_dash code ∷ [])
request_text (Directory owner index) = codes "DIRECTORY" ++ fields (account_digits owner ∷ decimal index ∷ [])
request_text (Declare name most) = codes "DECLARE" ++ fields (letters_or_dash name ∷ decimal most ∷ [])
request_text Remove = codes "REMOVE"
request_text (Send name text) = codes "SEND" ++ fields (letters_or_dash name ∷ hex_or_dash text ∷ [])
request_text Receive = codes "RECEIVE"
request_text (Sleep seconds) = codes "SLEEP" ++ fields (decimal seconds ∷ [])
request_text Tick = codes "TICK"
request_text Assign = codes "ASSIGN"
request_text Deassign = codes "DEASSIGN"
request_text OpenPrinter = codes "LPOPEN"
request_text (Print text) = codes "LPPRINT" ++ fields (hex_or_dash text ∷ [])
request_text ClosePrinter = codes "LPCLOSE"
request_text Status = codes "STATUS"

abbrev pub reply_text : Reply → List ℕ
reply_text Done = codes "DONE"
reply_text (Opened blocks read write) =
    codes "OPENED" ++ fields (decimal blocks ∷ truth_text read ∷ truth_text write ∷ [])
reply_text (Block page) = codes "BLOCK" ++ fields (hex_or_dash page ∷ [])
reply_text (Record pages) = codes "RECORD" ++ fields (pages_text pages ∷ [])
reply_text (Name name code blocks) = codes "NAME" ++ fields (printed_name name ∷ decimal code ∷ number_or_dash blocks ∷ [])
reply_text (Message job account text) =
    codes "MESSAGE" ++ fields (decimal job ∷ account_digits account ∷ hex_or_dash text ∷ [])
reply_text (State job account calls) = codes "STATE" ++ fields (decimal job ∷ account_digits account ∷ decimal calls ∷ [])
reply_text (Failed number) = codes "FAILED" ++ fields (decimal number ∷ [])
reply_text Expired = codes "EXPIRED"

-- the job, the request, and the reply
abbrev pub entry_line : Entry → List ℕ
entry_line entry =
    decimal entry.job ++ codes " " ++ request_text entry.request ++ codes " = "
    ++ reply_text entry.reply ++ codes "\n"

abbrev pub entry_lines : List Entry → List ℕ
entry_lines [] = []
entry_lines (entry ∷ entries) = entry_line entry ++ entry_lines entries

-- The digits of a number of any size, without a leading zero; `decimal` shows the last 64 digits at
-- most.
unfoldable pub count_text : ℕ → List ℕ
count_text n = digits_onto (suc n) 10 false n []

-- HISTORY and the number of entries, and the entries in their order
abbrev pub history_text : List Entry → List ℕ
history_text history =
    codes "HISTORY " ++ count_text (length history) ++ codes "\n" ++ entry_lines history

-- A journal has a star in place of the number. It may be cut after any of its lines: then it is the
-- journal of fewer entries.
abbrev pub journal_text : List Entry → List ℕ
journal_text history = codes "HISTORY *\n" ++ entry_lines history

-- a text of this history, counted or not
abbrev pub IsHistoryText : List ℕ → List Entry → Type 0
IsHistoryText text history = (text ≡ history_text history) ⊎ (text ≡ journal_text history)
