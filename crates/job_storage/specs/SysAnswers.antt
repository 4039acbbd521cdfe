-- The requests of SYS, and what answers each of them.
use Rattle.std.specs.Prelude.{true}
use Rattle.monitor_calls.specs.declared.calls.Request.{Request}
use Rattle.monitor_calls.specs.declared.calls.Request.TheVariants.{Declare, Remove, Send, Receive, Status}
use Rattle.job_model.specs.Asking.{AnswerKind, ByDone, ByMessage, ByState}
use Rattle.job_storage.specs.declared.sys.SysAnswer.{SysAnswer}
use Rattle.job_storage.specs.declared.sys.SysAnswer.TheVariants as answer

-- the requests of the table of SYS
abbrev pub IsAskedBySys : Request → Type 0
IsAskedBySys (Declare name most) = Unit {0}
IsAskedBySys Remove = Unit {0}
IsAskedBySys (Send name text) = Unit {0}
IsAskedBySys Receive = Unit {0}
IsAskedBySys Status = Unit {0}
IsAskedBySys request = ⊥

abbrev pub kind_answered : SysAnswer → AnswerKind
kind_answered answer.Done = ByDone true
kind_answered answer.Message = ByMessage
kind_answered answer.State = ByState
