-- The text of a program as a value of the definitions.
use Rattle.std.specs.Prelude.{ℕ}
use Rattle.std.specs.BTreeMap.{BTreeMap}
use Rattle.basic_tree.specs.declared.programs.Line.{Line}
use Rattle.line_editor.specs.declared.text.ProgramText.TheInside.{Inside}
use Rattle.basic_tree.specs.ProgramLines.{Lines}
use Rattle.line_editor.specs.Lines.{IsProgram, AreTrees}

abbrev pub lines_seen : Inside → Lines
lines_seen text = text.buffer

-- the lines are a program's, and these are their trees
pub record AreWhole (lines : Lines) (trees : BTreeMap ℕ Line) : Type 0 where
  pub program : IsProgram lines
  pub beside : AreTrees lines trees.entries

abbrev pub IsWhole : Inside → Type 0
IsWhole text = AreWhole text.buffer text.program.lines
