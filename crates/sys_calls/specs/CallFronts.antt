-- The table of SYS as a function: a string is read from its start. `Laws` says that it finds a call
-- exactly if the table has an entry for it, so if you know the table, you need not read this file.
use Rattle.std.specs.Prelude.{◌≡◌, ℕ, ◌+◌, ◌==◌, ◌&&◌, nat_le, if◌then◌else◌, List, length, map, take, drop, slice_index_or, Option, Some, None, Result, Ok, Err}
use Rattle.std.specs.Char.{to_ascii_uppercase}
use Rattle.std.specs.List.{list_all, prefix_len}
use Rattle.basic_values.specs.declared.errors.TheConstants.{ILLEGAL_SYS}
use Rattle.basic_values.specs.declared.failures.Trouble.{Trouble}
use Rattle.basic_values.specs.declared.failures.Trouble.TheVariants.{Refused, NoMemory}
use Rattle.basic_values.specs.declared.limits.TheConstants.{LONGEST_MESSAGE, MOST_LETTERS}
use Rattle.monitor_calls.specs.declared.calls.Request.TheVariants.{Declare, Remove, Send, Receive, Status}
use Rattle.monitor_calls.specs.Names.{is_password, is_capital_or_digit}
use Rattle.sys_calls.specs.declared.calls.TheConstants.{MOST_COMMON}
use Rattle.sys_calls.specs.declared.calls.SysCall.{SysCall}
use Rattle.sys_calls.specs.declared.calls.SysCall.TheVariants.{ReadCommon, WriteCommon, ErrorText, Ask}

-- the call that reading finds, or the error if it finds none; or memory ran out
abbrev pub ReadsCall : Option SysCall → Result SysCall (Trouble ℕ) → Type 0
ReadsCall found (Ok call) = found ≡ Some call
ReadsCall found (Err (Refused fault)) = (fault ≡ ILLEGAL_SYS) × (found ≡ None)
ReadsCall found (Err NoMemory) = Unit {0}

-- THE NAME OF A RECEIVER

-- how many capital letters and digits the string begins with
abbrev pub name_length : List ℕ → ℕ
name_length raised = prefix_len is_capital_or_digit raised

abbrev pub if_password : List ℕ → Option (List ℕ)
if_password name = if is_password name then Some name else None

-- the name, if only spaces follow it
abbrev pub receiver_before : List ℕ → Option (List ℕ)
receiver_before raised =
    if list_all (λ byte. byte == 32) (drop (name_length raised) raised)
    then if_password (take (name_length raised) raised)
    else None

abbrev pub receiver_in : List ℕ → Option (List ℕ)
receiver_in six = receiver_before (map to_ascii_uppercase six)

-- WHAT FOLLOWS THE CODES

-- the call, if nothing follows
abbrev pub only_call : SysCall → List ℕ → Option SysCall
only_call call rest = if length rest == 0 then Some call else None

abbrev pub common_in : List ℕ → Option SysCall
common_in rest = if nat_le (length rest) MOST_COMMON then Some (WriteCommon rest) else None

abbrev pub error_in : List ℕ → Option SysCall
error_in rest = if length rest == 1 then Some (ErrorText (slice_index_or rest 0 0)) else None

abbrev pub declared_as : Option (List ℕ) → ℕ → Option SysCall
declared_as None most = None
declared_as (Some name) most =
    if nat_le 1 most && nat_le most MOST_LETTERS then Some (Ask (Declare name most)) else None

abbrev pub declare_in : List ℕ → Option SysCall
declare_in rest =
    if length rest == 7
    then declared_as (receiver_in (take 6 rest)) (slice_index_or rest 6 0)
    else None

abbrev pub sent_to : Option (List ℕ) → List ℕ → Option SysCall
sent_to None message = None
sent_to (Some name) message = Some (Ask (Send name message))

abbrev pub send_in : List ℕ → Option SysCall
send_in rest =
    if nat_le 6 (length rest) && nat_le (length rest) (6 + LONGEST_MESSAGE)
    then sent_to (receiver_in (take 6 rest)) (drop 6 rest)
    else None

-- THE CODES

-- the first code is split off, and the rest is read by it
abbrev pub by_code : (ℕ → List ℕ → Option SysCall) → List ℕ → Option SysCall
by_code read text =
    if length text == 0 then None else read (slice_index_or text 0 0) (drop 1 text)

-- the calls of messages
unfoldable pub message_call_of : ℕ → List ℕ → Option SysCall
message_call_of code rest =
    if code == 0 then only_call (Ask Remove) rest
    else if code == 1 then declare_in rest
    else if code == 2 then only_call (Ask Receive) rest
    else if code == 255 then send_in rest
    else None

abbrev pub message_call_in : List ℕ → Option SysCall
message_call_in text = by_code message_call_of text

-- the calls of the monitor, and of error texts
unfoldable pub monitor_call_of : ℕ → List ℕ → Option SysCall
monitor_call_of code rest =
    if code == 9 then error_in rest
    else if code == 22 then message_call_in rest
    else if code == 128 then only_call (Ask Status) rest
    else None

abbrev pub monitor_call_in : List ℕ → Option SysCall
monitor_call_in text = by_code monitor_call_of text

-- all calls
unfoldable pub call_of : ℕ → List ℕ → Option SysCall
call_of code rest =
    if code == 6 then monitor_call_in rest
    else if code == 7 then only_call ReadCommon rest
    else if code == 8 then common_in rest
    else None

abbrev pub call_in : List ℕ → Option SysCall
call_in text = by_code call_of text
