use Rattle.std.proofs.Common.{◌≡◌, List, ℕ, [], Some, ap, sym, ◌∙◌}
use Rattle.basic_values.specs.Messages.{fault_text}
use Rattle.basic_values.specs.declared.failures.Stop.TheVariants as stop
use Rattle.channels.specs.Seen.{files}
use Rattle.job_model.specs.Act.{Gives}
use Rattle.job_model.specs.Replies.{asks_for, no_part}
use Rattle.job_model.proofs.Follows.{follows_from, follows_nothing, follows_is, follows_in, as_returned}
use Rattle.program_model.specs.Storage.{Storage}
use Rattle.program_model.specs.SysActs.{text_by, sys_does}
use Rattle.sys_calls.specs.declared.calls.SysCall.{SysCall}
use Rattle.job_storage.proofs.storage.Storage.sys_call.Goals as goal

pub returns-in_err-copied-in-ReadCommon : goal.returns-in_err-copied-in-ReadCommon
returns-in_err-copied-in-ReadCommon g c clock = as_returned stop.NoMemory c.from_residual.result c.args.self.now c.from_residual.ensures.1 follows_nothing

pub returns-in_err-copied-in-ErrorText : goal.returns-in_err-copied-in-ErrorText
returns-in_err-copied-in-ErrorText g c clock = as_returned stop.NoMemory c.from_residual-in_err-copied-in-ErrorText.result c.args.self.now c.from_residual-in_err-copied-in-ErrorText.ensures.1 follows_nothing

pub returns-in_ok-copied-in-ReadCommon : goal.returns-in_ok-copied-in-ReadCommon
returns-in_ok-copied-in-ReadCommon g c clock =
    let s = c.args.self.now in
    let same : s.common ≡ c.in_ok-copied-in-ReadCommon.field-0 = ap (λ (s : Storage). s.common) (sym c.self.view_is) ∙ sym c.as_bytes.ensures.bytes ∙ sym c.in_ok-copied-in-ReadCommon.ensures in
    follows_from (ap (λ (call : SysCall). sys_does (Some call) s) c.in-ReadCommon.is) (follows_is (ap (λ (t : List ℕ). Gives t s) same))

pub returns-in-WriteCommon : goal.returns-in-WriteCommon
returns-in-WriteCommon g c clock =
    let s : Storage = record { account = c.self.inside.account; memory = c.self.inside.memory; files = files c.self.inside.channels c.self.inside.buffers; common = c.self.inside.common } in
    let common = c.in-WriteCommon.common in
    follows_from (ap (λ (call : SysCall). sys_does (Some call) c.args.self.now) c.in-WriteCommon.is)
    (follows_from (ap (λ (s : Storage). Gives [] (record s { common = common })) (sym c.self.view_is))
    (follows_is (ap (λ (t : List ℕ). Gives t (record s { common = common })) (sym c.empty.ensures))))

pub returns-in_ok-copied-in-ErrorText : goal.returns-in_ok-copied-in-ErrorText
returns-in_ok-copied-in-ErrorText g c clock =
    let s = c.args.self.now in
    let same : fault_text c.in-ErrorText.number ≡ c.in_ok-copied-in-ErrorText.field-0 = ap fault_text (sym c.new.ensures) ∙ sym c.text.ensures ∙ sym c.in_ok-copied-in-ErrorText.ensures in
    follows_from (ap (λ (call : SysCall). sys_does (Some call) s) c.in-ErrorText.is) (follows_is (ap (λ (t : List ℕ). Gives t s) same))

pub returns-in-Ask : goal.returns-in-Ask
returns-in-Ask g c clock =
    let s = c.args.self.now in
    follows_from (ap (λ (call : SysCall). sys_does (Some call) s) c.in-Ask.is)
    (follows_in no_part s (λ _. asks_for text_by c.in-Ask.request) c.ask_text.result tt (c.ask_text.ensures clock))
