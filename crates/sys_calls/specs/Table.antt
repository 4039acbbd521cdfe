-- The table of SYS: the call that each string makes, and the string that it returns.
use Rattle.std.specs.Prelude.{◌≡◌, ℕ, ◌+◌, ◌-◌, ◌/◌, ◌%◌, ◌≤◌, ◌<◌, true, List, [], ◌∷◌, ◌++◌, length, map, replicate, Result, Ok, Err}
use Rattle.std.specs.Char.{to_ascii_uppercase}
use Rattle.basic_values.specs.declared.errors.TheConstants.{ILLEGAL_SYS}
use Rattle.basic_values.specs.declared.failures.Trouble.{Trouble}
use Rattle.basic_values.specs.declared.failures.Trouble.TheVariants.{Refused, NoMemory}
use Rattle.basic_values.specs.declared.limits.TheConstants.{LONGEST_MESSAGE, MOST_JOBS, MOST_LETTERS}
use Rattle.monitor_calls.specs.declared.calls.Request.{Request}
use Rattle.monitor_calls.specs.declared.calls.Request.TheVariants.{Declare, Remove, Send, Receive, Status}
use Rattle.monitor_calls.specs.declared.calls.Reply.{Reply}
use Rattle.monitor_calls.specs.declared.calls.Reply.TheVariants.{Done, Message, State}
use Rattle.monitor_calls.specs.Names.{is_password}
use Rattle.sys_calls.specs.declared.calls.TheConstants.{MOST_COMMON}
use Rattle.sys_calls.specs.declared.calls.SysCall.{SysCall}
use Rattle.sys_calls.specs.declared.calls.SysCall.TheVariants.{ReadCommon, WriteCommon, ErrorText, Ask}

-- THE CALL OF A STRING

-- six bytes spell a name of 1 to 6 letters, of either case, or digits; spaces follow it
pub record SaysReceiver (six name : List ℕ) : Type 0 where
  pub kind : is_password name ≡ true
  pub says : map to_ascii_uppercase six ≡ name ++ replicate (6 - length name) 32

-- the name, and the most messages that can wait
pub record SaysDeclare (text name : List ℕ) (most : ℕ) : Type 0 where
  pub six : List ℕ
  pub named : SaysReceiver six name
  pub is : text ≡ 6 ∷ 22 ∷ 1 ∷ six ++ most ∷ []
  pub least : 1 ≤ most
  pub greatest : most ≤ MOST_LETTERS

-- the name, and the message
pub record SaysSend (text name message : List ℕ) : Type 0 where
  pub six : List ℕ
  pub named : SaysReceiver six name
  pub is : text ≡ 6 ∷ 22 ∷ 255 ∷ six ++ message
  pub short : length message ≤ LONGEST_MESSAGE

-- the entries of requests to the monitor; no string makes another request
abbrev pub SaysRequest : List ℕ → Request → Type 0
SaysRequest text (Declare name most) = SaysDeclare text name most
SaysRequest text Remove = text ≡ 6 ∷ 22 ∷ 0 ∷ []
SaysRequest text (Send name message) = SaysSend text name message
SaysRequest text Receive = text ≡ 6 ∷ 22 ∷ 2 ∷ []
SaysRequest text Status = text ≡ 6 ∷ 128 ∷ []
SaysRequest text request = ⊥

-- THE TABLE: the string makes this call
abbrev pub SaysCall : List ℕ → SysCall → Type 0
SaysCall text ReadCommon = text ≡ 7 ∷ []
SaysCall text (WriteCommon common) = (text ≡ 8 ∷ common) × (length common ≤ MOST_COMMON)
SaysCall text (ErrorText number) = text ≡ 6 ∷ 9 ∷ number ∷ []
SaysCall text (Ask request) = SaysRequest text request

-- the call that the string makes, or the error, exactly if it makes none; or memory ran out
abbrev pub DecodesText : List ℕ → Result SysCall (Trouble ℕ) → Type 0
DecodesText text (Ok call) = SaysCall text call
DecodesText text (Err (Refused fault)) =
    (fault ≡ ILLEGAL_SYS) × ((call : SysCall) → SaysCall text call → ⊥)
DecodesText text (Err NoMemory) = Unit {0}

-- WHICH STRING IS RETURNED

-- For Done it is empty. Jobs count from 1, and a number of calls is two bytes, the high one first.
abbrev pub GivesText : Reply → List ℕ → Type 0
GivesText Done text = text ≡ []
GivesText (Message job account message) text =
    text ≡ (job + 1) ∷ account.project ∷ account.programmer ∷ message
GivesText (State job account calls) text =
    text ≡ (job + 1) ∷ account.project ∷ account.programmer ∷ (calls / 256) ∷ (calls % 256) ∷ []
GivesText reply text = ⊥

-- the same as a function, for a definition that continues with the string; for other replies it is
-- empty
abbrev pub told_by_sys : Reply → List ℕ
told_by_sys (Message job account message) =
    (job + 1) ∷ account.project ∷ account.programmer ∷ message
told_by_sys (State job account calls) =
    (job + 1) ∷ account.project ∷ account.programmer ∷ (calls / 256) ∷ (calls % 256) ∷ []
told_by_sys reply = []

-- the replies that have a string: a job's number and a message are such as the monitor replies
abbrev pub IsToldBySys : Reply → Type 0
IsToldBySys Done = Unit {0}
IsToldBySys (Message job account message) = (job < MOST_JOBS) × (length message ≤ LONGEST_MESSAGE)
IsToldBySys (State job account calls) = job < MOST_JOBS
IsToldBySys reply = ⊥
