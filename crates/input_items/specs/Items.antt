-- Which items a call returns: those of a line, and the next one of DATA.
use Rattle.std.specs.Global.{Vec}
use Rattle.std.specs.Prelude.{◌≡◌, ℕ, suc, nat_lt, if◌then◌else◌, List, length, take, Option, Some, None, Result, Ok, Err}
use Rattle.basic_strings.specs.Readings.{without_blanks}
use Rattle.basic_values.specs.declared.errors.TheConstants.{NOT_ENOUGH_DATA, OUT_OF_DATA}
use Rattle.basic_values.specs.declared.failures.Trouble.{Trouble}
use Rattle.basic_values.specs.declared.failures.Trouble.TheVariants as trouble

-- A call that may fail returns the result, or its error. If memory runs out, nothing is claimed.
abbrev pub Answers : {A F : Type 0} → Result A F → Result A (Trouble F) → Type 0
Answers wanted (Ok value) = wanted ≡ Ok value
Answers wanted (Err (trouble.Refused why)) = wanted ≡ Err why
Answers wanted (Err trouble.NoMemory) = Unit {0}

-- the same for a call that returns a list
abbrev pub AnswersList : {A F : Type 0} → Result (List A) F → Result (Vec A) (Trouble F) → Type 0
AnswersList wanted (Ok list) = wanted ≡ Ok list.items
AnswersList wanted (Err (trouble.Refused why)) = wanted ≡ Err why
AnswersList wanted (Err trouble.NoMemory) = Unit {0}

-- this many items, without any others, or the error if there are fewer
abbrev pub counted : ℕ → List (List ℕ) → Result (List (List ℕ)) ℕ
counted count items = if nat_lt (length items) count then Err NOT_ENOUGH_DATA else Ok (take count items)

-- an item of DATA without the blanks around it, or the error if none is left
abbrev pub data_item : Option (List ℕ) → Result (List ℕ) ℕ
data_item None = Err OUT_OF_DATA
data_item (Some item) = Ok (without_blanks item)

-- after an item, the place of READ is one further; after none, it is as before
abbrev pub next_place : {A E : Type 0} → Result A E → ℕ → ℕ
next_place (Ok item) place = suc place
next_place (Err why) place = place
