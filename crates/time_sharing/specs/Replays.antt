-- What a replay does: a deck and a history are checked once more, on one thread. `Replays`, at the
-- end, is what the program's call says of it. The definitions before it are its words.
use Rattle.std.specs.Prelude.{◌≡◌, ℕ, List, Result, IfOk, IfErr}
use Rattle.monitor_calls.specs.declared.calls.Entry.{Entry}
use Rattle.deck_model.specs.Deck.{Deck}
use Rattle.deck_model.specs.Spelling.{Spelled}
use Rattle.deck_model.specs.Refusals as refusals
use Rattle.deck_model.specs.Report.{report}
use Rattle.deck_model.specs.declared.faults.DeckFault.{DeckFault}
use Rattle.history_reader.specs.HistoryReading.{TellsHistory}
use Rattle.rsts_io.specs.Ends.{SourceState, Rose}
use Rattle.time_sharing.specs.declared.outcomes.HistoryFault.{HistoryFault}
use Rattle.time_sharing.specs.declared.outcomes.Failure.{Failure}
use Rattle.time_sharing.specs.declared.outcomes.Failure.TheVariants as failure
use Rattle.rsts_io.specs.declared.whole.TheConstants.{REPLAY_LIMIT}
use Rattle.time_sharing.specs.Disputes.{Disputes}
use Rattle.time_sharing.specs.Inputs.{Divided, line_behind}
use Rattle.time_sharing.specs.Runs.{IsRun, names_in}
use Rattle.rsts_io.specs.Whole.{IsInput, Written, BrokeOff}
use Rattle.time_sharing.specs.TwoEnds.{Ends, NothingGiven, SourceFailed, InputTooLong, WantedMemory, IsTold, OkOrLacked, FailsOrLacked, EndsTooLong}

-- WHAT AN INPUT SAYS

-- the text is that of the history of a run of the deck, whose report is this
pub record Retells (history : List Entry) (output : List ℕ) (deck : Deck) (text : List ℕ) : Type 0 where
  pub tells : TellsHistory text history
  pub screens : List (List ℕ)
  pub run : IsRun deck history screens
  pub reported : output ≡ report (names_in deck) screens

-- the deck's part of the input spells a deck, and this is so of the deck, of the text after it and
-- of the number of the text's first line
pub record BehindDeck (IsSo : Deck → List ℕ → ℕ → Type 0) (input : List ℕ) : Type 0 where
  pub part : List ℕ
  pub text : List ℕ
  pub divided : Divided input part text
  pub deck : Deck
  pub spelled : Spelled part deck
  pub is_so : IsSo deck text (line_behind part)

-- a run of the deck, with this history and this report
abbrev pub TellsRun : List Entry → List ℕ → List ℕ → Type 0
TellsRun history output input = BehindDeck (λ deck text first. Retells history output deck text) input

-- what is disputed, at a line that is counted from the first of the input
abbrev pub TellsDispute : HistoryFault → List ℕ → Type 0
TellsDispute fault input = BehindDeck (Disputes fault) input

-- the deck's part spells none, and is rejected at this line for this cause
pub record TellsNoDeck (fault : DeckFault) (input : List ℕ) : Type 0 where
  pub part : List ℕ
  pub text : List ℕ
  pub divided : Divided input part text
  pub refused : refusals.Refused part fault.line fault.cause

-- THE RESULT OF A REPLAY

-- the input was read whole, and this is so of it
pub record FoundInput (IsSo : List ℕ → Type 0) (old new : SourceState) : Type 0 where
  pub read : List ℕ
  pub input : IsInput REPLAY_LIMIT read old new
  pub is_so : IsSo read

-- the input has a run with this history, and what was written is its report
pub record Replayed (before after : Ends) (history : List Entry) : Type 0 where
  pub output : List ℕ
  pub found : FoundInput (TellsRun history output) before.source after.source
  pub written : Written output before.sink after.sink

-- this is so of the input, and nothing was given
pub record FoundAlone (IsSo : List ℕ → Type 0) (before after : Ends) : Type 0 where
  pub found : FoundInput IsSo before.source after.source
  pub given : NothingGiven before after

-- the input has a run, and the sink failed once, before it had all of the report
pub record ReportBroke (before after : Ends) : Type 0 where
  pub history : List Entry
  pub output : List ℕ
  pub found : FoundInput (TellsRun history output) before.source after.source
  pub broke_off : BrokeOff output before.sink after.sink

-- what each failure of a replay means
abbrev pub ReplayFails : Ends → Ends → Failure → Type 0
ReplayFails before after (failure.Deck fault) = FoundAlone (TellsNoDeck fault) before after
ReplayFails before after failure.ReadFault = SourceFailed before after
ReplayFails before after failure.TooLong = InputTooLong REPLAY_LIMIT before after
ReplayFails before after failure.WriteFault = ReportBroke before after
ReplayFails before after failure.NoMemory = WantedMemory before after
ReplayFails before after (failure.History fault) = FoundAlone (TellsDispute fault) before after

-- WHAT MUST COME

-- the source reports an input, and this is so of it
pub record ToldInput (IsSo : List ℕ → Type 0) (old new : SourceState) : Type 0 where
  pub read : List ℕ
  pub told : IsTold REPLAY_LIMIT read old new
  pub is_so : IsSo read

-- a run, in an input that the source reports, between ends that do not fail
pub record IsFairReplay (before after : Ends) : Type 0 where
  pub history : List Entry
  pub output : List ℕ
  pub source : ToldInput (TellsRun history output) before.source after.source
  pub sink : Rose before.sink.faults after.sink.faults → ⊥

-- unless memory runs out, an input of which this is so has this failure
abbrev pub MustFail : (List ℕ → Type 0) → Failure → Ends → Ends → Result (List Entry) Failure → Type 0
MustFail IsSo why before after end =
    ToldInput IsSo before.source after.source → FailsOrLacked why end

-- WHAT A REPLAY DOES

pub record Replays (before after : Ends) (end : Result (List Entry) Failure) : Type 0 where
  pub ok : IfOk end (Replayed before after)
  pub failed : IfErr end (ReplayFails before after)
  pub must_be_too_long : EndsTooLong REPLAY_LIMIT before.source after.source end
  pub must_refuse : (fault : DeckFault) → MustFail (TellsNoDeck fault) (failure.Deck fault) before after end
  pub must_dispute : (fault : HistoryFault) → MustFail (TellsDispute fault) (failure.History fault) before after end
  pub completes : IsFairReplay before after → OkOrLacked end
