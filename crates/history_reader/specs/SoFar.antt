-- A text of which some entries are read, and what readers find next. No promise of the program uses
-- it.
use Rattle.std.specs.Prelude.{◌≡◌, ℕ, List, [], ◌∷◌, ◌++◌, length, Option, Some, None, Result, Ok, Err, codes, ⊤}
use Rattle.monitor_calls.specs.declared.calls.Entry.{Entry}
use Rattle.monitor_calls.specs.Proper.{IsProperEntry, Proper}
use Rattle.deck_model.specs.Histories.{entry_line, entry_lines}
use Rattle.history_reader.specs.Counts.{Counts, Allows}
use Rattle.history_reader.specs.declared.failures.LineError.{LineError}
use Rattle.history_reader.specs.declared.failures.LineError.TheVariants.{Wrong, Memory}

-- the first line with such a count, without its LF
abbrev pub heading_text : List ℕ → List ℕ
heading_text count = codes "HISTORY " ++ count

-- the text is a first line with a star or the count of no fewer, these entries, and a rest
pub record SoFar (text count : List ℕ) (entries : List Entry) (rest : List ℕ) : Type 0 where
  pub allows : Allows count (length entries)
  pub proper : Proper entries
  pub text_is : text ≡ heading_text count ++ 10 ∷ (entry_lines entries ++ rest)

-- the text does not begin with the first line of a history
abbrev pub NoHeading : List ℕ → Type 0
NoHeading text = (count : List ℕ) (n : ℕ) (rest : List ℕ)
    → Counts count n → text ≡ heading_text count ++ 10 ∷ rest → ⊥

-- the text does not begin with the line of an entry
abbrev pub NoEntry : List ℕ → Type 0
NoEntry text = (entry : Entry) (rest : List ℕ)
    → IsProperEntry entry → text ≡ entry_line entry ++ rest → ⊥

-- the count and the rest that were found, seen by view, are those of the text; the entries come
-- after the count
abbrev pub FindsHeading : {X : Type 0} → (X → List ℕ × List ℕ) → List ℕ → Option X → Type 0
FindsHeading view text None = NoHeading text
FindsHeading view text (Some x) = SoFar text (view x).0 [] (view x).1

-- the entry and the rest that were found, seen by view, are those that the text begins with
abbrev pub TakesEntry : {X : Type 0} → (X → Entry × List ℕ) → List ℕ → Result X LineError → Type 0
TakesEntry view text (Ok x) =
    IsProperEntry (view x).0 × (text ≡ entry_line (view x).0 ++ (view x).1)
TakesEntry view text (Err Wrong) = NoEntry text
TakesEntry view text (Err Memory) = ⊤
