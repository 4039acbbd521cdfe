-- Asking: the tree makes a request, and continues by what the reply counts as.
use Rattle.std.specs.Prelude.{ℕ, ◌+◌, ◌-◌, Bool, true, false, not, ◌&&◌, nat_lt, nat_le, length, if◌then◌else◌}
use Rattle.basic_values.specs.declared.limits.TheConstants.{LONGEST_MESSAGE, MOST_BLOCKS, MOST_CALLS, MOST_JOBS}
use Rattle.monitor_calls.specs.declared.calls.Request.{Request}
use Rattle.monitor_calls.specs.declared.calls.Request.TheVariants.{Login, Logout, OpenFile, CloseFile, Get, Put, GetRecord, PutRecord, Unlock, Kill, Rename, Directory, Declare, Remove, Send, Receive, Sleep, Tick, Assign, Deassign, OpenPrinter, Print, ClosePrinter, Status}
use Rattle.monitor_calls.specs.declared.calls.Reply.{Reply}
use Rattle.monitor_calls.specs.declared.calls.Reply.TheVariants.{Done, Opened, Block, Record, Name, Message, State, Failed, Expired}
use Rattle.monitor_calls.specs.Requests.{is_logout}
use Rattle.monitor_calls.specs.Volumes.{is_between}
use Rattle.job_model.specs.Act.{Act, Gives, Asks}
use Rattle.job_model.specs.declared.replies.TheConstants.{LAST_ERROR}

-- WHAT ANSWERS A REQUEST that the monitor does not refuse and that is not the last call of its job

pub data AnswerKind : Type 0 where
  -- Done, if this is true
  ByDone : Bool → AnswerKind
  ByOpened : AnswerKind
  -- a block, if this is true
  ByBlock : Bool → AnswerKind
  -- a record from this block on, of at most this many pages
  ByRecord : ℕ → ℕ → AnswerKind
  ByName : AnswerKind
  ByMessage : AnswerKind
  ByState : AnswerKind

-- whether a disk can have the block; and this many blocks from this one on
abbrev pub can_be_block : ℕ → Bool
can_be_block block = is_between 1 MOST_BLOCKS block

abbrev pub can_be_blocks : ℕ → ℕ → Bool
can_be_blocks block count = nat_le 1 block && nat_le (block + count - 1) MOST_BLOCKS

-- a write can be done only if a disk can have the blocks
abbrev pub answer_to : Request → AnswerKind
answer_to (Login account password) = ByDone true
answer_to Logout = ByDone true
answer_to (OpenFile channel name kind update code) = ByOpened
answer_to (CloseFile channel) = ByDone true
answer_to (Get channel block) = ByBlock (can_be_block block)
answer_to (Put channel block page) = ByDone (can_be_block block)
answer_to (GetRecord channel block count) = ByRecord block count
answer_to (PutRecord channel block pages) = ByDone (can_be_blocks block (length pages))
answer_to (Unlock channel) = ByDone true
answer_to (Kill name) = ByDone true
answer_to (Rename old new code) = ByDone true
answer_to (Directory owner index) = ByName
answer_to (Declare name most) = ByDone true
answer_to Remove = ByDone true
answer_to (Send name text) = ByDone true
answer_to Receive = ByMessage
answer_to (Sleep seconds) = ByDone true
answer_to Tick = ByDone true
answer_to Assign = ByDone true
answer_to Deassign = ByDone true
answer_to OpenPrinter = ByDone true
answer_to (Print text) = ByDone true
answer_to ClosePrinter = ByDone true
answer_to Status = ByState

-- whether these can be the pages of a record that was read from this block on
abbrev pub can_be_record : ℕ → ℕ → ℕ → Bool
can_be_record block most count = is_between 1 most count && can_be_blocks block count

-- jobs are numbered from 0, and the calls of a job are limited
abbrev pub is_answer : AnswerKind → Reply → Bool
is_answer (ByDone can_be) Done = can_be
is_answer ByOpened (Opened blocks read write) = true
is_answer (ByBlock can_be) (Block page) = can_be
is_answer (ByRecord block most) (Record pages) = can_be_record block most (length pages)
is_answer ByName (Name name code blocks) = true
is_answer ByMessage (Message job account text) =
    nat_lt job MOST_JOBS && nat_le (length text) LONGEST_MESSAGE
is_answer ByState (State job account calls) = nat_lt job MOST_JOBS && nat_le calls MOST_CALLS
is_answer answer reply = false

-- REFUSALS

abbrev pub can_fail : Request → Bool
can_fail (Login account password) = true
can_fail Logout = false
can_fail (OpenFile channel name kind update code) = true
can_fail (CloseFile channel) = true
can_fail (Get channel block) = true
can_fail (Put channel block page) = true
can_fail (GetRecord channel block count) = true
can_fail (PutRecord channel block pages) = true
can_fail (Unlock channel) = true
can_fail (Kill name) = true
can_fail (Rename old new code) = true
can_fail (Directory owner index) = true
can_fail (Declare name most) = true
can_fail Remove = true
can_fail (Send name text) = true
can_fail Receive = true
can_fail (Sleep seconds) = true
can_fail Tick = false
can_fail Assign = true
can_fail Deassign = true
can_fail OpenPrinter = true
can_fail (Print text) = true
can_fail ClosePrinter = true
can_fail Status = true

abbrev pub is_error : ℕ → Bool
is_error number = is_between 1 LAST_ERROR number

-- THE REPLIES THAT FIT

-- a refusal by an error; Expired at the last call, which a Logout never is; or the answer
abbrev pub fits : Request → Reply → Bool
fits request (Failed number) = can_fail request && is_error number
fits request Expired = not (is_logout request)
fits request reply = is_answer (answer_to request) reply

-- what a reply that does not fit the request counts as
abbrev pub unfitting : Request → Reply
unfitting request = if is_logout request then Done else Expired

abbrev pub counts_as : Request → Reply → Reply
counts_as request reply = if fits request reply then reply else unfitting request

abbrev pub ask : {L S : Type 0} → Request → S → Act L S Reply
ask request s = Asks request (λ reply. Gives (counts_as request reply) s)
