-- What is read of a text is determined by the text.
use Rattle.std.specs.Prelude.{◌≡◌, ℕ, List}
use Rattle.monitor_calls.specs.declared.calls.Entry.{Entry}
use Rattle.history_reader.specs.HistoryReading.{TellsHistory, WrongAt}

-- a text is that of one history
abbrev pub HistoryIsOne : Type 0
HistoryIsOne = (text : List ℕ) (a b : List Entry)
    → TellsHistory text a → TellsHistory text b → a ≡ b

-- a text goes wrong at one place
abbrev pub WrongPlaceIsOne : Type 0
WrongPlaceIsOne = (text : List ℕ) (m n : ℕ) → WrongAt text m → WrongAt text n → m ≡ n
