-- Editing the text of a program line by line: what is stored, and what is rejected.
use Rattle.std.specs.Prelude.{◌≡◌, ◌⊎◌, ◌<◌, ℕ, List, [], ◌∷◌, length, IsSome, Result, Ok, Err}
use Rattle.basic_values.specs.declared.failures.Trouble.{Trouble}
use Rattle.basic_values.specs.declared.failures.Trouble.TheVariants.{Refused, NoMemory}
use Rattle.basic_tree.specs.LineVerdicts.{Refuses}
use Rattle.line_editor.specs.declared.text.EditRefusal.{EditRefusal}
use Rattle.line_editor.specs.declared.text.EditRefusal.TheVariants.{Number, TooLong, Line, TooMany}
use Rattle.basic_values.specs.declared.limits.TheConstants.{MOST_LINES}
use Rattle.basic_tree.specs.ProgramLines.{Lines, line, stored, removed}
use Rattle.line_editor.specs.Lines.{IsNumber, Fits, SpellsLine}

-- the program has the line already, or is not full
abbrev pub HasRoom : ℕ → Lines → Type 0
HasRoom number lines = IsSome (line number lines) ⊎ (length lines < MOST_LINES)

-- the line can be stored
pub record IsStorable (number : ℕ) (rest : List ℕ) (lines : Lines) : Type 0 where
  pub numbered : IsNumber number
  pub fits : Fits number rest
  pub spelled : SpellsLine rest
  pub room : HasRoom number lines

-- why it is rejected: the first of these causes that applies
abbrev pub RefusesFor : ℕ → List ℕ → Lines → EditRefusal → Type 0
RefusesFor number rest lines Number = ¬ (IsNumber number)
RefusesFor number rest lines TooLong = IsNumber number × ¬ (Fits number rest)
RefusesFor number rest lines (Line refusal) = IsNumber number × Fits number rest × Refuses rest refusal
RefusesFor number rest lines TooMany =
    IsNumber number × Fits number rest × SpellsLine rest × ¬ (HasRoom number lines)

-- The line is stored exactly if it can be, and a rejected line changes nothing.
abbrev pub Keeps : ℕ → List ℕ → Lines → Lines → Result Unit (Trouble EditRefusal) → Type 0
Keeps number rest old new (Ok done) = (new ≡ stored number rest old) × IsStorable number rest old
Keeps number rest old new (Err (Refused cause)) = (new ≡ old) × RefusesFor number rest old cause
Keeps number rest old new (Err NoMemory) = new ≡ old

-- The line is deleted, if its number is a line number.
abbrev pub Deletes : ℕ → Lines → Lines → Result Unit (Trouble EditRefusal) → Type 0
Deletes number old new (Ok done) = (new ≡ removed number old) × IsNumber number
Deletes number old new (Err (Refused cause)) = (new ≡ old) × (cause ≡ Number) × ¬ (IsNumber number)
Deletes number old new (Err NoMemory) = ⊥

-- a line is edited: an empty rest deletes it, and any other is stored
abbrev pub Edits : ℕ → List ℕ → Lines → Lines → Result Unit (Trouble EditRefusal) → Type 0
Edits number [] old new result = Deletes number old new result
Edits number (byte ∷ bytes) old new result = Keeps number (byte ∷ bytes) old new result
