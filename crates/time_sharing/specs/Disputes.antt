-- The line at which the text after a deck first fails to be the history of a run of it.
use Rattle.std.specs.Prelude.{◌≡◌, ℕ, ◌+◌, ◌<◌, List, take, slice_get, Some}
use Rattle.monitor_calls.specs.declared.calls.Entry.{Entry}
use Rattle.monitor_calls.specs.declared.calls.Request.{Request}
use Rattle.monitor_calls.specs.Pairs.{Pair, requests, replies}
use Rattle.monitor_calls.specs.Typing.{Typing, all_typed}
use Rattle.monitor_model.specs.History.{Legal, part_of}
use Rattle.session_model.specs.Talk.{ByGrammar, talk}
use Rattle.deck_model.specs.Deck.{Deck, Terminal}
use Rattle.history_reader.specs.HistoryReading.{TellsHistory, WrongAt}
use Rattle.history_replay.specs.Disputes.{WrongReply, entry_position}
use Rattle.time_sharing.specs.declared.outcomes.HistoryCause.{HistoryCause}
use Rattle.time_sharing.specs.declared.outcomes.HistoryCause.TheVariants as cause
use Rattle.time_sharing.specs.declared.outcomes.HistoryFault.{HistoryFault}
use Rattle.time_sharing.specs.Runs.{opening_of, HasTalked}

-- THE FORM

-- it is the text of no history, and the line is the first that no history can have there
pub record WrongForm (text : List ℕ) (first line : ℕ) : Type 0 where
  pub good : ℕ
  pub wrong : WrongAt text good
  pub line_is : line ≡ first + good

-- THE ENTRIES

-- it is the text of a history, of which this is so at this entry, and the line is the entry's
pub record AtEntry (IsSo : List Entry → ℕ → Type 0) (text : List ℕ) (first line : ℕ) : Type 0 where
  pub history : List Entry
  pub tells : TellsHistory text history
  pub entry : ℕ
  pub is_so : IsSo history entry
  pub line_is : line ≡ first + 1 + entry

-- THE MEANING

-- the lists have the same requests up to this place, and there they differ, or one of them has none
pub record DifferAt (place : ℕ) (asked told : List Request) : Type 0 where
  pub alike : take place asked ≡ take place told
  pub differ : slice_get asked place ≡ slice_get told place → ⊥

-- The session of these keys, given the replies of the pairs, makes their requests up to this place.
-- There it makes another one, or none although they go on, or one although they have ended
abbrev pub TalksOtherwise : Typing → List Pair → ℕ → Type 0
TalksOtherwise keys pairs place =
    ByGrammar (λ judge. DifferAt place (talk judge keys (replies pairs)).0 (requests pairs))

-- All replies are the monitor's, and all terminals before this one had their sessions. Its session
-- makes other requests than its part of the history. The entry is the first of them in the history,
-- or the place after the last if there is none.
pub record WrongRequest (deck : Deck) (history : List Entry) (entry : ℕ) : Type 0 where
  pub legal : Legal (opening_of deck) history
  pub job : ℕ
  pub terminal : Terminal
  pub is_terminal : slice_get deck.terminals job ≡ Some terminal
  pub earlier : (j : ℕ) (other : Terminal) → j < job → slice_get deck.terminals j ≡ Some other
      → (screen : List ℕ) × HasTalked history j other screen
  pub place : ℕ
  pub otherwise : TalksOtherwise (all_typed terminal.keys) (part_of job history) place
  pub entry_is : entry ≡ entry_position job place history

-- BY THE CAUSE: the form; the first entry whose job is no terminal, or whose reply is not the
-- monitor's; the first entry that asks for what the session of its terminal does not ask

abbrev pub DisputesFor : HistoryCause → Deck → List ℕ → ℕ → ℕ → Type 0
DisputesFor cause.Form deck text first line = WrongForm text first line
DisputesFor cause.Reply deck text first line = AtEntry (WrongReply (opening_of deck)) text first line
DisputesFor cause.Meaning deck text first line = AtEntry (WrongRequest deck) text first line

-- the text, whose first line has this number, is the history of no run of the deck
abbrev pub Disputes : HistoryFault → Deck → List ℕ → ℕ → Type 0
Disputes fault deck text first = DisputesFor fault.cause deck text first fault.line
