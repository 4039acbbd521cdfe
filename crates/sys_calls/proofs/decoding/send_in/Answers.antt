use Rattle.std.proofs.Common.{arith, sym, subst, Option, ◌∙◌}
use Rattle.sys_calls.specs.declared.calls.SysCall.{SysCall}
use Rattle.sys_calls.specs.CallFronts.{ReadsCall}
use Rattle.sys_calls.proofs.SaidIsRead.{send_found}
use Rattle.sys_calls.proofs.decoding.send_in.Goals as goal

pub returns-in-Some : goal.returns-in-Some
returns-in-Some c =
    let found = send_found c.args.rest.now c.in-Some.name (omega (arith, c.if-rest-lt-NAME_BYTES.false)) (omega (arith, c.if-rest.false)) (sym c.receiver_in.ensures ∙ c.in-Some.is) in
    subst (λ (call : Option SysCall). ReadsCall call c.sent_to.result) (sym found) c.sent_to.ensures
