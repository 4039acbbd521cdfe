use Rattle.std.proofs.Common.{ℕ, Option, Err, ap, sym, subst}
use Rattle.basic_values.specs.declared.failures.Trouble.{Trouble}
use Rattle.job_model.specs.Act.{Breaks, Faulted}
use Rattle.job_model.proofs.Follows.{follows_from, follows_nothing, follows_is}
use Rattle.program_model.specs.SysActs.{sys_does}
use Rattle.sys_calls.specs.CallFronts.{ReadsCall, call_in}
use Rattle.sys_calls.specs.declared.calls.SysCall.{SysCall}
use Rattle.job_storage.proofs.storage.Storage.sys.Goals as goal

pub returns-in-Ok : goal.returns-in-Ok
returns-in-Ok g c clock = follows_from (ap (λ (found : Option SysCall). sys_does found c.args.self.now) c.in-Ok.ensures.found) (c.sys_call.ensures clock)

pub returns-in-Err-Refused : goal.returns-in-Err-Refused
returns-in-Err-Refused g c clock =
    let s = c.args.self.now in
    let found = subst (λ (why : Trouble ℕ). ReadsCall (call_in c.args.text.now) (Err why)) c.in-Err-Refused.field-0-is c.in-Err-Refused.ensures.found in
    rw c.in-Err-Refused.fault-is
    (follows_from (ap (λ (found : Option SysCall). sys_does found s) found.1) (follows_is (ap (λ (n : ℕ). Breaks (Faulted n) s) (sym found.0))))

pub returns-in-Err-NoMemory : goal.returns-in-Err-NoMemory
returns-in-Err-NoMemory g c clock = follows_nothing
