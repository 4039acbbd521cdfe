-- SYS: what a string asks for is done, and a string is returned.
use Rattle.std.specs.Prelude.{ℕ, List, [], Option, Some, None}
use Rattle.basic_values.specs.Messages.{fault_text}
use Rattle.basic_values.specs.declared.errors.TheConstants.{ILLEGAL_SYS}
use Rattle.job_model.specs.Act.{Gives, Breaks, Faulted, Gone, on}
use Rattle.job_model.specs.Replies.{ReplyAct, asks_for, no_part}
use Rattle.monitor_calls.specs.declared.calls.Reply.{Reply}
use Rattle.monitor_calls.specs.declared.calls.Reply.TheVariants.{Failed, Expired}
use Rattle.sys_calls.specs.CallFronts.{call_in}
use Rattle.sys_calls.specs.Table.{told_by_sys}
use Rattle.sys_calls.specs.declared.calls.SysCall.{SysCall}
use Rattle.sys_calls.specs.declared.calls.SysCall.TheVariants.{ReadCommon, WriteCommon, ErrorText, Ask}
use Rattle.program_model.specs.Storage.{StorageAct}

-- a refusal is a fault, an answer becomes a string
abbrev pub text_by : Reply → ReplyAct (List ℕ)
text_by (Failed number) = Breaks (Faulted number) tt
text_by Expired = Breaks Gone tt
text_by reply = Gives (told_by_sys reply) tt

-- a string that is in no entry of the table is an error
abbrev pub sys_does : Option SysCall → StorageAct (List ℕ)
sys_does None s = Breaks (Faulted ILLEGAL_SYS) s
sys_does (Some ReadCommon) s = Gives s.common s
sys_does (Some (WriteCommon common)) s = Gives [] (record s { common = common })
sys_does (Some (ErrorText number)) s = Gives (fault_text number) s
sys_does (Some (Ask request)) s = on no_part (λ _. asks_for text_by request) s

abbrev pub sys_act : List ℕ → StorageAct (List ℕ)
sys_act text s = sys_does (call_in text) s
