-- Each request that a SYS string makes is one of the requests of its table.
use Rattle.std.proofs.Common.{◌≡◌, ℕ, List, subst}
use Rattle.monitor_calls.specs.declared.calls.Request.{Request}
use Rattle.monitor_calls.specs.declared.calls.Request.TheVariants.{Declare, Remove, Send, Receive, Status}
use Rattle.sys_calls.specs.Table.{SaysRequest, SaysCall}
use Rattle.sys_calls.specs.declared.calls.SysCall.{SysCall}
use Rattle.sys_calls.specs.declared.calls.SysCall.TheVariants.{Ask}
use Rattle.job_storage.specs.SysAnswers.{IsAskedBySys}

has_row : (text : List ℕ) (request : Request) → SaysRequest text request → IsAskedBySys request
has_row text (Declare name most) says = tt
has_row text Remove says = tt
has_row text (Send name message) says = tt
has_row text Receive says = tt
has_row text Status says = tt
has_row text request says = absurd says

pub asked : (text : List ℕ) (call : SysCall) → SaysCall text call → (request : Request) → call ≡ Ask request → IsAskedBySys request
asked text call says request is = has_row text request (subst (SaysCall text) is says)
