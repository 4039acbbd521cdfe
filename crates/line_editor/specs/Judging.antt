-- The verdict on a line, before it is known whether one more line is allowed.
use Rattle.std.specs.Prelude.{ℕ, List, Result, Ok, Err}
use Rattle.basic_values.specs.declared.failures.Trouble.{Trouble}
use Rattle.basic_values.specs.declared.failures.Trouble.TheVariants.{Refused, NoMemory}
use Rattle.basic_tree.specs.declared.programs.Line.{Line as Tree}
use Rattle.basic_tree.specs.LineVerdicts.{Refuses}
use Rattle.line_editor.specs.declared.text.EditRefusal.{EditRefusal}
use Rattle.line_editor.specs.declared.text.EditRefusal.TheVariants.{Number, TooLong, Line, TooMany}
use Rattle.line_editor.specs.Lines.{IsNumber, Fits, SpellsLine, IsTreeOf}

abbrev pub IsEditVerdict : ℕ → List ℕ → Result Tree (Trouble EditRefusal) → Type 0
IsEditVerdict number rest (Ok tree) =
    IsNumber number × Fits number rest × SpellsLine rest × IsTreeOf rest tree
IsEditVerdict number rest (Err (Refused Number)) = ¬ (IsNumber number)
IsEditVerdict number rest (Err (Refused TooLong)) = IsNumber number × ¬ (Fits number rest)
IsEditVerdict number rest (Err (Refused (Line refusal))) = IsNumber number × Fits number rest × Refuses rest refusal
IsEditVerdict number rest (Err (Refused TooMany)) = ⊥
IsEditVerdict number rest (Err NoMemory) = Unit {0}
