-- The lines in one buffer, by their marks.
use Rattle.std.specs.Prelude.{◌≡◌, ℕ, ◌+◌, List, map, slice_range}
use Rattle.basic_tree.specs.ProgramLines.{Lines, listing}
use Rattle.line_editor.specs.declared.buffer.Mark.{Mark}
use Rattle.line_editor.specs.declared.buffer.LineBuffer.TheInside.{Inside}
use Rattle.line_editor.specs.Marks.{IsOrderly, marks_of}

-- the number, and the bytes after it
abbrev pub line_marked : List ℕ → Mark → ℕ × List ℕ
line_marked bytes mark = (mark.number, slice_range bytes mark.begins (mark.begins + mark.count))

abbrev pub lines_marked : Inside → Lines
lines_marked buffer = map (line_marked buffer.bytes.items) buffer.marks.items

-- the buffer is the listing of these lines and nothing else, and the marks say where they are in it
pub record IsListing (bytes : List ℕ) (marks : List Mark) (lines : Lines) : Type 0 where
  pub orderly : IsOrderly lines
  pub whole : bytes ≡ listing lines
  pub beside : marks ≡ marks_of 0 lines

abbrev pub IsMarked : Inside → Type 0
IsMarked buffer = IsListing buffer.bytes.items buffer.marks.items (lines_marked buffer)
