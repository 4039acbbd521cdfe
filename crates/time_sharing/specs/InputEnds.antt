-- The result of reading and replaying an input. You need not trust this file.
use Rattle.std.specs.Prelude.{◌≡◌, ℕ, ◌+◌, List, Result, Ok, Err}
use Rattle.std.specs.Global.{Vec}
use Rattle.basic_values.specs.declared.failures.Trouble.{Trouble}
use Rattle.basic_values.specs.declared.failures.Trouble.TheVariants as trouble
use Rattle.monitor_calls.specs.declared.calls.Entry.{Entry}
use Rattle.monitor_model.specs.History.{Legal}
use Rattle.deck_model.specs.Deck.{Deck}
use Rattle.deck_reader.specs.declared.decks.Terminal.{Terminal}
use Rattle.report_texts.specs.Names.{names_of}
use Rattle.history_replay.specs.Disputes.{WrongReply}
use Rattle.history_replay.specs.declared.disputes.Dispute.{Dispute}
use Rattle.history_replay.specs.declared.disputes.Dispute.TheVariants as dispute
use Rattle.time_sharing.specs.declared.outcomes.HistoryCause.TheVariants as cause
use Rattle.time_sharing.specs.declared.outcomes.HistoryFault.{HistoryFault}
use Rattle.time_sharing.specs.declared.replays.InputFault.{InputFault}
use Rattle.time_sharing.specs.declared.replays.InputFault.TheVariants as fault
use Rattle.time_sharing.specs.declared.outcomes.Failure.{Failure}
use Rattle.time_sharing.specs.declared.outcomes.Failure.TheVariants as failure
use Rattle.time_sharing.specs.Disputes.{Disputes, WrongRequest}
use Rattle.time_sharing.specs.Replays.{Retells, TellsRun, TellsDispute, TellsNoDeck}
use Rattle.time_sharing.specs.Runs.{opening_of, AllTalk, names_in}

-- the entries are those of a run, with these screens
pub record IsRetold (deck : Deck) (history : List Entry) (screens : List (List ℕ)) : Type 0 where
  pub legal : Legal (opening_of deck) history
  pub talks : AllTalk history deck.terminals screens

abbrev pub IsDisputed : Deck → List Entry → Dispute → Type 0
IsDisputed deck history (dispute.Reply entry) = WrongReply (opening_of deck) history entry
IsDisputed deck history (dispute.Meaning job place entry) = WrongRequest deck history entry

-- the result of a replay of entries, with the deck's terminals
abbrev pub RetoldBy : Deck → List Entry → Result (Vec Terminal × Vec (List ℕ)) (Trouble Dispute) → Type 0
RetoldBy deck history (Ok told) =
    (names_of told.0.items ≡ names_in deck) × IsRetold deck history told.1.items
RetoldBy deck history (Err (trouble.Refused why)) = IsDisputed deck history why
RetoldBy deck history (Err trouble.NoMemory) = Unit {0}

-- the fault of a dispute, if the text's first line has this number
abbrev pub entry_of : Dispute → ℕ
entry_of (dispute.Reply entry) = entry
entry_of (dispute.Meaning job place entry) = entry

abbrev pub fault_of : ℕ → Dispute → HistoryFault
fault_of first (dispute.Reply entry) = record { line = first + 1 + entry; cause = cause.Reply }
fault_of first (dispute.Meaning job place entry) =
    record { line = first + 1 + entry; cause = cause.Meaning }

-- the result of a replay of a text
abbrev pub RetellsBy : Deck → List ℕ → ℕ → Result (List Entry × Vec ℕ) (Trouble HistoryFault) → Type 0
RetellsBy deck text first (Ok run) = Retells run.0 run.1.items deck text
RetellsBy deck text first (Err (trouble.Refused why)) = Disputes why deck text first
RetellsBy deck text first (Err trouble.NoMemory) = Unit {0}

abbrev pub fault_failure : InputFault → Failure
fault_failure (fault.Deck why) = failure.Deck why
fault_failure (fault.History why) = failure.History why

abbrev pub TellsFault : InputFault → List ℕ → Type 0
TellsFault (fault.Deck why) input = TellsNoDeck why input
TellsFault (fault.History why) input = TellsDispute why input

-- the result of a replay of an input
abbrev pub ToldBy : List ℕ → Result (List Entry × Vec ℕ) (Trouble InputFault) → Type 0
ToldBy input (Ok run) = TellsRun run.0 run.1.items input
ToldBy input (Err (trouble.Refused why)) = TellsFault why input
ToldBy input (Err trouble.NoMemory) = Unit {0}
