-- The laws of all strings of SYS.
use Rattle.std.specs.Prelude.{◌≡◌, ◌↔◌, ℕ, List, Some}
use Rattle.monitor_calls.specs.declared.calls.Reply.{Reply}
use Rattle.sys_calls.specs.declared.calls.SysCall.{SysCall}
use Rattle.sys_calls.specs.Table.{SaysCall, GivesText, IsToldBySys, told_by_sys}
use Rattle.sys_calls.specs.CallFronts.{call_in}

-- a string is at most one call
abbrev pub SaysOneCall : Type 0
SaysOneCall = (text : List ℕ) (a b : SysCall) → SaysCall text a → SaysCall text b → a ≡ b

-- a reply becomes one string
abbrev pub GivesOneText : Type 0
GivesOneText = (reply : Reply) (a b : List ℕ) → GivesText reply a → GivesText reply b → a ≡ b

-- reading from the start finds a call exactly if the table has it
abbrev pub FindsWhatIsSaid : Type 0
FindsWhatIsSaid =
    (text : List ℕ) (call : SysCall) → (call_in text ≡ Some call) ↔ SaysCall text call

-- the function gives the table's string for each reply that has one
abbrev pub GivesWhatIsTold : Type 0
GivesWhatIsTold = (reply : Reply) → IsToldBySys reply → GivesText reply (told_by_sys reply)
