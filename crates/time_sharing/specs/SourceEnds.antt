-- The result of reading a deck from a source. You need not trust this file.
use Rattle.std.specs.Prelude.{◌≡◌, Result, Ok, Err}
use Rattle.rsts_io.specs.Ends.{SourceState, Rose}
use Rattle.rsts_io.specs.declared.whole.TheConstants.{INPUT_LIMIT}
use Rattle.rsts_io.specs.Whole.{IsTooMuch}
use Rattle.deck_reader.specs.declared.decks.Deck.{Deck}
use Rattle.deck_reader.specs.Seen.{deck_of}
use Rattle.time_sharing.specs.declared.outcomes.Failure.{Failure}
use Rattle.time_sharing.specs.declared.outcomes.Failure.TheVariants as failure
use Rattle.time_sharing.specs.Headline.{FoundDeck, FoundNone}

-- why reading came to no deck
abbrev pub WhyNone : Failure → SourceState → SourceState → Type 0
WhyNone (failure.Deck fault) old new = FoundNone fault old new
WhyNone failure.ReadFault old new = Rose old.faults new.faults
WhyNone failure.TooLong old new = IsTooMuch INPUT_LIMIT old new
WhyNone failure.NoMemory old new = new.faults ≡ old.faults
WhyNone _ old new = ⊥

-- a deck, or why there is none
abbrev pub FoundInSource : Result Deck Failure → SourceState → SourceState → Type 0
FoundInSource (Ok deck) old new = FoundDeck (deck_of deck) old new
FoundInSource (Err why) old new = WhyNone why old new
