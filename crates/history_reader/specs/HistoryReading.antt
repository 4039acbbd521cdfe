-- Which history a text is that of, and the place at which a text that is no history's goes wrong.
use Rattle.std.specs.Prelude.{◌≡◌, ℕ, suc, ◌<◌, ◌≤◌, List, ◌++◌, length, Result, Ok, Err, ⊤}
use Rattle.std.specs.Global.{Vec}
use Rattle.basic_values.specs.declared.failures.Trouble.{Trouble}
use Rattle.basic_values.specs.declared.failures.Trouble.TheVariants.{Refused, NoMemory}
use Rattle.monitor_calls.specs.declared.calls.Entry.{Entry}
use Rattle.monitor_calls.specs.Proper.{Proper}
use Rattle.deck_model.specs.Histories.{IsHistoryText}
use Rattle.history_reader.specs.EndedLines.{ended_lines, first_ended}

-- the text is that of this history, counted or a journal; its numbers and strings are in the ranges
-- of their types
pub record TellsHistory (text : List ℕ) (history : List Entry) : Type 0 where
  pub proper : Proper history
  pub is_text : IsHistoryText text history

-- these bytes begin the text of some history
pub record BeginsHistory (front : List ℕ) : Type 0 where
  pub history : List Entry
  pub proper : Proper history
  pub whole : List ℕ
  pub is_text : IsHistoryText whole history
  pub more : List ℕ
  pub text_is : whole ≡ front ++ more

-- The text is no history's. This many of its whole lines begin one, and with the next, if there is
-- one, they do not.
pub record WrongAt (text : List ℕ) (good : ℕ) : Type 0 where
  pub none : (history : List Entry) → TellsHistory text history → ⊥
  pub few : good ≤ length (ended_lines text)
  pub begins : BeginsHistory (first_ended good text)
  pub longest : good < length (ended_lines text) → BeginsHistory (first_ended (suc good) text) → ⊥

-- the result for a text: its history, or the place at which it goes wrong, unless memory ran out
abbrev pub ReadsHistory : List ℕ → Result (Vec Entry) (Trouble ℕ) → Type 0
ReadsHistory text (Ok history) = TellsHistory text history.items
ReadsHistory text (Err (Refused good)) = WrongAt text good
ReadsHistory text (Err NoMemory) = ⊤
