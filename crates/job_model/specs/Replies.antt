-- What a reply leads to. It uses no part of the state.
use Rattle.std.specs.Prelude.{◌≡◌, ℕ, Bool, if◌then◌else◌, List}
use Rattle.monitor_calls.specs.declared.calls.Request.{Request}
use Rattle.monitor_calls.specs.declared.calls.Reply.{Reply}
use Rattle.monitor_calls.specs.declared.calls.Reply.TheVariants.{Done, Opened, Block, Record, Failed, Expired}
use Rattle.job_model.specs.Act.{Act, Gives, Breaks, Faulted, Gone, Place, ◌then◌}
use Rattle.job_model.specs.Asking.{ask, counts_as, is_error}

abbrev pub ReplyAct : Type 0 → Type 0
ReplyAct A = Act ⊥ Unit A

-- WHAT IT LEADS TO: a refusal is a fault, and a reply that does not fit the request ends the job

abbrev pub done_by : Reply → ReplyAct Unit
done_by Done = Gives tt tt
done_by (Failed number) = Breaks (Faulted number) tt
done_by reply = Breaks Gone tt

-- the blocks of the file
abbrev pub opened_by : Reply → ReplyAct ℕ
opened_by (Opened blocks read write) = Gives blocks tt
opened_by (Failed number) = Breaks (Faulted number) tt
opened_by reply = Breaks Gone tt

abbrev pub block_by : Reply → ReplyAct (List ℕ)
block_by (Block page) = Gives page tt
block_by (Failed number) = Breaks (Faulted number) tt
block_by reply = Breaks Gone tt

abbrev pub pages_by : Reply → ReplyAct (List (List ℕ))
pages_by (Record pages) = Gives pages tt
pages_by (Failed number) = Breaks (Faulted number) tt
pages_by reply = Breaks Gone tt

-- a request, and what the reply to it leads to
abbrev pub asks_for : {A : Type 0} → (Reply → ReplyAct A) → Request → ReplyAct A
asks_for by request = ask request tt then λ reply _. by reply

-- what is done on no part of a state leaves the state as it is
abbrev pub no_part : {S : Type 0} → Place S Unit
no_part = record { part = λ s. tt; with_part = λ s none. s }

-- WHAT THE CALLS COMPUTE OF IT: the same as what it counts as

-- to a request that the monitor can refuse, and whether it can be done
abbrev pub taken_as : Bool → Reply → Reply
taken_as can_be_done Done = if can_be_done then Done else Expired
taken_as can_be_done (Failed number) = if is_error number then Failed number else Expired
taken_as can_be_done reply = Expired

-- only Done or a refusal is a reply to the request, and Done only if it can be done
abbrev pub IsDoneOnly : Bool → Request → Type 0
IsDoneOnly can_be_done request = (reply : Reply) → taken_as can_be_done reply ≡ counts_as request reply
