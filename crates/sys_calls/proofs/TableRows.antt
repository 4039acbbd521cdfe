-- Entries of the table, computed.
use Rattle.std.proofs.Common.{◌≡◌, [], ◌∷◌, ◌++◌, Some, None, refl}
use Rattle.std.specs.Prelude.{codes}
use Rattle.monitor_calls.specs.declared.calls.Request.TheVariants.{Declare, Remove, Send, Receive, Status}
use Rattle.monitor_calls.specs.declared.calls.Reply.TheVariants.{Done, State, Message}
use Rattle.sys_calls.specs.declared.calls.SysCall.TheVariants.{ReadCommon, WriteCommon, ErrorText, Ask}
use Rattle.sys_calls.specs.Table.{told_by_sys}
use Rattle.sys_calls.specs.CallFronts.{message_call_of, monitor_call_of, call_of, call_in}

no_text : call_in [] ≡ None
no_text = refl

another_code : call_in (99 ∷ []) ≡ None
unfolding call_of
another_code = refl

common_read : call_in (7 ∷ []) ≡ Some ReadCommon
unfolding call_of
common_read = refl

nothing_behind_it : call_in (7 ∷ 0 ∷ []) ≡ None
unfolding call_of
nothing_behind_it = refl

common_written : call_in (8 ∷ codes "HI") ≡ Some (WriteCommon (codes "HI"))
unfolding call_of
common_written = refl

common_emptied : call_in (8 ∷ []) ≡ Some (WriteCommon [])
unfolding call_of
common_emptied = refl

error_asked : call_in (6 ∷ 9 ∷ 19 ∷ []) ≡ Some (ErrorText 19)
unfolding monitor_call_of call_of
error_asked = refl

status_asked : call_in (6 ∷ 128 ∷ []) ≡ Some (Ask Status)
unfolding monitor_call_of call_of
status_asked = refl

receiver_removed : call_in (6 ∷ 22 ∷ 0 ∷ []) ≡ Some (Ask Remove)
unfolding message_call_of monitor_call_of call_of
receiver_removed = refl

message_received : call_in (6 ∷ 22 ∷ 2 ∷ []) ≡ Some (Ask Receive)
unfolding message_call_of monitor_call_of call_of
message_received = refl

receiver_declared : call_in (6 ∷ 22 ∷ 1 ∷ codes "Ab1   " ++ 2 ∷ []) ≡ Some (Ask (Declare (codes "AB1") 2))
unfolding message_call_of monitor_call_of call_of
receiver_declared = refl

too_many_messages : call_in (6 ∷ 22 ∷ 1 ∷ codes "AB1   " ++ 33 ∷ []) ≡ None
unfolding message_call_of monitor_call_of call_of
too_many_messages = refl

letters_behind_a_space : call_in (6 ∷ 22 ∷ 1 ∷ codes "A B   " ++ 2 ∷ []) ≡ None
unfolding message_call_of monitor_call_of call_of
letters_behind_a_space = refl

no_letters : call_in (6 ∷ 22 ∷ 1 ∷ codes "      " ++ 2 ∷ []) ≡ None
unfolding message_call_of monitor_call_of call_of
no_letters = refl

message_sent : call_in (6 ∷ 22 ∷ 255 ∷ codes "ORDERShello") ≡ Some (Ask (Send (codes "ORDERS") (codes "hello")))
unfolding message_call_of monitor_call_of call_of
message_sent = refl

nothing_sent : call_in (6 ∷ 22 ∷ 255 ∷ codes "ORDERS") ≡ Some (Ask (Send (codes "ORDERS") []))
unfolding message_call_of monitor_call_of call_of
nothing_sent = refl

done_told : told_by_sys Done ≡ []
done_told = refl

message_told : told_by_sys (Message 4 (record { project = 100; programmer = 5 }) (codes "hello")) ≡ 5 ∷ 100 ∷ 5 ∷ codes "hello"
message_told = refl

state_told : told_by_sys (State 0 (record { project = 1; programmer = 2 }) 300) ≡ 1 ∷ 1 ∷ 2 ∷ 1 ∷ 44 ∷ []
state_told = refl
