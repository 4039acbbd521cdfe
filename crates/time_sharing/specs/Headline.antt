-- What the program does. If you trust this file, and the definitions that it names, you know it.
-- `Does`, at the end, is the one clause of the program's call. The definitions before it are its
-- words.
use Rattle.std.specs.Prelude.{◌≡◌, ℕ, ◌%◌, Bool, if◌then◌else◌, List, [], ◌++◌, length, Result, IfOk, IfErr}
use Rattle.monitor_calls.specs.declared.calls.Entry.{Entry}
use Rattle.deck_model.specs.Deck.{Deck}
use Rattle.deck_model.specs.Spelling.{Spelled}
use Rattle.deck_model.specs.Refusals as refusals
use Rattle.deck_model.specs.Report.{report, good_line}
use Rattle.deck_model.specs.Histories.{history_text}
use Rattle.deck_model.specs.declared.faults.DeckFault.{DeckFault}
use Rattle.print_spool.specs.Printed.{printed_text}
use Rattle.program_words.specs.declared.words.Wanted.{Wanted}
use Rattle.program_words.specs.declared.words.Asked.{Asked}
use Rattle.program_words.specs.declared.words.Asked.TheVariants.{Run, Check, Drill, Replay, Nothing}
use Rattle.rsts_io.specs.Ends.{SourceState, SinkState, Rose}
use Rattle.drill_deck.specs.DrillDeck.{drill_deck}
use Rattle.drill_deck.specs.Tallies.{puts_in, sum_in, drill_line}
use Rattle.time_sharing.specs.declared.outcomes.Drill.{Drill as DrillEnd}
use Rattle.time_sharing.specs.declared.outcomes.Failure.{Failure}
use Rattle.time_sharing.specs.declared.outcomes.Failure.TheVariants as failure
use Rattle.time_sharing.specs.declared.outcomes.Outcome.{Outcome}
use Rattle.time_sharing.specs.declared.outcomes.Outcome.TheVariants as outcome
use Rattle.rsts_io.specs.declared.whole.TheConstants.{INPUT_LIMIT}
use Rattle.time_sharing.specs.Replays.{Replays}
use Rattle.time_sharing.specs.Runs.{IsRun, names_in}
use Rattle.rsts_io.specs.Whole.{IsInput, Written, BrokeOff}
use Rattle.time_sharing.specs.TwoEnds.{Ends, NothingGiven, SourceFailed, InputTooLong, WantedMemory, IsTold, OkOrLacked, FailsOrLacked, EndsTooLong}

-- WHAT IS WRITTEN OF A RUN

abbrev pub where_wanted : Bool → List ℕ → List ℕ
where_wanted wanted text = if wanted then text else []

-- what is written of a run: its report, then the text of its history, and then what the printer
-- printed, the last two only if asked for
abbrev pub written_of : Wanted → Deck → List Entry → List (List ℕ) → List ℕ
written_of wanted deck history screens =
    report (names_in deck) screens ++ where_wanted wanted.history (history_text history)
    ++ where_wanted wanted.printer (printed_text (names_in deck) history)

-- the report of a run of the deck with this history
pub record Reports (wanted : Wanted) (deck : Deck) (history : List Entry) (output : List ℕ)
    : Type 0 where
  pub screens : List (List ℕ)
  pub run : IsRun deck history screens
  pub reported : output ≡ written_of wanted deck history screens

-- what a run of the deck may write
abbrev pub IsReport : Wanted → Deck → List ℕ → Type 0
IsReport wanted deck output = (history : List Entry) × Reports wanted deck history output

-- what a check of the deck writes
abbrev pub IsGoodLine : Deck → List ℕ → Type 0
IsGoodLine deck output =
    output ≡ good_line (length deck.accounts) (length deck.files) (length deck.terminals)

-- THE HEADLINE

-- the input was read whole, and spells the deck
pub record FoundDeck (deck : Deck) (old new : SourceState) : Type 0 where
  pub read : List ℕ
  pub input : IsInput INPUT_LIMIT read old new
  pub spelled : Spelled read deck

-- the input spells a deck, and what was written is the report of a run of it with this history
pub record Headline (wanted : Wanted) (before after : Ends) (history : List Entry) : Type 0 where
  pub deck : Deck
  pub output : List ℕ
  pub found : FoundDeck deck before.source after.source
  pub reports : Reports wanted deck history output
  pub written : Written output before.sink after.sink

-- the input spells a deck, and what was written says so
pub record Checked (before after : Ends) : Type 0 where
  pub deck : Deck
  pub output : List ℕ
  pub found : FoundDeck deck before.source after.source
  pub is_good_line : IsGoodLine deck output
  pub written : Written output before.sink after.sink

-- THE CAUSES OF EACH FAILURE

-- the input was read whole, and is rejected at this line for this cause
pub record FoundNone (fault : DeckFault) (old new : SourceState) : Type 0 where
  pub read : List ℕ
  pub input : IsInput INPUT_LIMIT read old new
  pub refused : refusals.Refused read fault.line fault.cause

pub record Refused (before after : Ends) (fault : DeckFault) : Type 0 where
  pub found : FoundNone fault before.source after.source
  pub given : NothingGiven before after

-- the input spells a deck, and the sink failed once, before it had all of the output
pub record SinkFailed (IsOutput : Deck → List ℕ → Type 0) (before after : Ends) : Type 0 where
  pub deck : Deck
  pub found : FoundDeck deck before.source after.source
  pub output : List ℕ
  pub is_output : IsOutput deck output
  pub broke_off : BrokeOff output before.sink after.sink

-- what each failure of a run or a check means; it is never a history
abbrev pub DeckFails : (Deck → List ℕ → Type 0) → Ends → Ends → Failure → Type 0
DeckFails IsOutput before after (failure.Deck fault) = Refused before after fault
DeckFails IsOutput before after failure.ReadFault = SourceFailed before after
DeckFails IsOutput before after failure.TooLong = InputTooLong INPUT_LIMIT before after
DeckFails IsOutput before after failure.WriteFault = SinkFailed IsOutput before after
DeckFails IsOutput before after failure.NoMemory = WantedMemory before after
DeckFails IsOutput before after (failure.History fault) = ⊥

-- WHAT MUST COME

pub record SpellsDeck (old new : SourceState) : Type 0 where
  pub read : List ℕ
  pub deck : Deck
  pub told : IsTold INPUT_LIMIT read old new
  pub spelled : Spelled read deck

pub record SpellsNone (fault : DeckFault) (old new : SourceState) : Type 0 where
  pub read : List ℕ
  pub told : IsTold INPUT_LIMIT read old new
  pub refused : refusals.Refused read fault.line fault.cause

-- a deck between ends that do not fail
pub record IsFair (before after : Ends) : Type 0 where
  pub source : SpellsDeck before.source after.source
  pub sink : Rose before.sink.faults after.sink.faults → ⊥

-- unless memory runs out, an input that is rejected gets its line and its cause reported
abbrev pub Refuses : {A : Type 0} → SourceState → SourceState → Result A Failure → Type 0
Refuses old new end =
    (fault : DeckFault) → SpellsNone fault old new → FailsOrLacked (failure.Deck fault) end

-- WHAT IS DONE OVER A DECK

-- what a run and a check have in common: what a result says, the cause of each failure, and what
-- must come
pub record OverDeck {A : Type 0} (Says : A → Type 0) (IsOutput : Deck → List ℕ → Type 0)
    (before after : Ends) (end : Result A Failure) : Type 0 where
  pub ok : IfOk end Says
  pub failed : IfErr end (DeckFails IsOutput before after)
  pub must_be_too_long : EndsTooLong INPUT_LIMIT before.source after.source end
  pub must_refuse : Refuses before.source after.source end
  pub completes : IsFair before after → OkOrLacked end

abbrev pub Runs : Wanted → Ends → Ends → Result (List Entry) Failure → Type 0
Runs wanted before after end =
    OverDeck (Headline wanted before after) (IsReport wanted) before after end

abbrev pub Checks : Ends → Ends → Result (Unit {0}) Failure → Type 0
Checks before after end = OverDeck (λ done. Checked before after) IsGoodLine before after end

-- A DRILL
-- It reads nothing: what is run is the deck of terminals that count in one block.

-- a run of that deck, how many Puts were done in it, and the number that the last of them wrote: no
-- Put is lost, so this is how many there were, in 16 bits
pub record IsDrill (jobs : ℕ) (drill : DrillEnd) : Type 0 where
  pub screens : List (List ℕ)
  pub run : IsRun (drill_deck jobs) drill.history screens
  pub as_many : drill.jobs ≡ jobs
  pub puts : drill.puts ≡ puts_in drill.history
  pub sum : drill.sum ≡ sum_in drill.history
  pub none_lost : drill.sum ≡ drill.puts % 65536

abbrev pub line_of_drill : DrillEnd → List ℕ
line_of_drill drill = drill_line drill.jobs drill.puts drill.sum

-- what was written is the line of the drill
pub record Drilled (jobs : ℕ) (before after : SinkState) (drill : DrillEnd) : Type 0 where
  pub drill_is : IsDrill jobs drill
  pub written : Written (line_of_drill drill) before after

-- the sink failed once, before it had all of the line of a drill
pub record DrillBroke (jobs : ℕ) (before after : SinkState) : Type 0 where
  pub drill : DrillEnd
  pub drill_is : IsDrill jobs drill
  pub broke_off : BrokeOff (line_of_drill drill) before after

-- what each failure of a drill means; all others never come
abbrev pub DrillFails : ℕ → SinkState → SinkState → Failure → Type 0
DrillFails jobs before after failure.WriteFault = DrillBroke jobs before after
DrillFails jobs before after failure.NoMemory = after ≡ before
DrillFails jobs before after _ = ⊥

-- the result of a drill, and what it does to the sink
pub record DrillEnds (jobs : ℕ) (before after : SinkState) (end : Result DrillEnd Failure) : Type 0 where
  pub ok : IfOk end (Drilled jobs before after)
  pub failed : IfErr end (DrillFails jobs before after)
  pub completes : (Rose before.faults after.faults → ⊥) → OkOrLacked end

pub record Drills (jobs : ℕ) (before after : Ends) (end : Result DrillEnd Failure) : Type 0 where
  pub source : after.source ≡ before.source
  pub answers : DrillEnds jobs before.sink after.sink end

-- WHAT THE PROGRAM DOES

-- Memory may run out before the words are parsed. Otherwise each word has its own outcome: a deck
-- is run, and what the words ask for is written, or it is checked, or a drill is run, or a run is
-- checked again. Other words have the usage as their outcome. No word has the outcome of another.
abbrev pub Does : Asked → Ends → Ends → Outcome → Type 0
Does _ before after outcome.NoMemory = after ≡ before
Does (Run wanted) before after (outcome.Run end) = Runs wanted before after end
Does Check before after (outcome.Check end) = Checks before after end
Does (Drill jobs) before after (outcome.Drill end) = Drills jobs before after end
Does Replay before after (outcome.Replay end) = Replays before after end
Does Nothing before after outcome.Usage = after ≡ before
Does _ _ _ _ = ⊥
