-- The laws of the table, and lemmas that the code uses.
use Rattle.std.proofs.Common.{ℕ, List, Result, Ok, Err, refl, sym, ◌∙◌}
use Rattle.basic_values.specs.declared.failures.Trouble.{Trouble}
use Rattle.basic_values.specs.declared.failures.Trouble.TheVariants.{Refused, NoMemory}
use Rattle.monitor_calls.specs.declared.calls.Reply.TheVariants.{Done, Message, State}
use Rattle.sys_calls.specs.declared.calls.SysCall.{SysCall}
use Rattle.sys_calls.specs.Table.{DecodesText}
use Rattle.sys_calls.specs.Laws.{SaysOneCall, GivesOneText, FindsWhatIsSaid, GivesWhatIsTold}
use Rattle.sys_calls.specs.CallFronts.{ReadsCall, call_in}
use Rattle.sys_calls.proofs.ReceiverLemmas.{some_is}
use Rattle.sys_calls.proofs.SaidIsRead.{said_is_read}
use Rattle.sys_calls.proofs.ReadIsSaid.{none_found, read_is_said}

-- reading from the start decodes by the table
pub decodes_by_reading : (text : List ℕ) (result : Result SysCall (Trouble ℕ)) → ReadsCall (call_in text) result → DecodesText text result
decodes_by_reading text (Ok call) reads = read_is_said text call reads
decodes_by_reading text (Err (Refused fault)) reads =
    (reads.0, λ call says. none_found call (sym (said_is_read text call says) ∙ reads.1))
decodes_by_reading text (Err NoMemory) reads = tt

pub says_one_call : SaysOneCall
says_one_call text a b says_a says_b = some_is a b (sym (said_is_read text a says_a) ∙ said_is_read text b says_b)

pub gives_one_text : GivesOneText
gives_one_text Done a b gives_a gives_b = gives_a ∙ sym gives_b
gives_one_text (Message job account message) a b gives_a gives_b = gives_a ∙ sym gives_b
gives_one_text (State job account calls) a b gives_a gives_b = gives_a ∙ sym gives_b
gives_one_text reply a b gives_a gives_b = absurd gives_a

pub finds_what_is_said : FindsWhatIsSaid
finds_what_is_said text call = (read_is_said text call, said_is_read text call)

pub gives_what_is_told : GivesWhatIsTold
gives_what_is_told Done is = refl
gives_what_is_told (Message job account message) is = refl
gives_what_is_told (State job account calls) is = refl
gives_what_is_told reply is = absurd is
