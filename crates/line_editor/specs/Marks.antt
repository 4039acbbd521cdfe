-- The marks of the lines in one buffer, and the places of lines in the order of their numbers.
use Rattle.std.specs.Prelude.{◌≡◌, ◌<◌, ◌≤◌, ℕ, ◌+◌, ◌-◌, ◌^◌, true, List, [], ◌∷◌, length}
use Rattle.std.specs.Fmt.{decimal}
use Rattle.std.specs.List.{AllWithin}
use Rattle.std.specs.List.Sorted.{IsStrictlySortedBy}
use Rattle.std.specs.Map.{keys_of}
use Rattle.std.specs.Ordering.{nat_cmp}
use Rattle.basic_tree.specs.ProgramLines.{Lines, is_within, listed}
use Rattle.line_editor.specs.declared.buffer.Mark.{Mark}
use Rattle.line_editor.specs.declared.buffer.Places.{Places}

-- the numbers increase
abbrev pub IsOrderly : Lines → Type 0
IsOrderly lines = IsStrictlySortedBy nat_cmp (keys_of lines)

-- WHERE LINES ARE IN A LISTING

-- the mark of a line that begins at this byte
abbrev pub mark_at : ℕ → ℕ × List ℕ → Mark
mark_at at line = record { number = line.0; begins = at + length (decimal line.0); count = length line.1 }

-- the marks of lines that are listed from this byte on
abbrev pub marks_of : ℕ → Lines → List Mark
marks_of at [] = []
marks_of at (line ∷ lines) = mark_at at line ∷ marks_of (at + length (listed line)) lines

-- a mark after a change that removed this many bytes and inserted that many
abbrev pub moved : ℕ → ℕ → Mark → Mark
moved removed added mark = record { number = mark.number; begins = (mark.begins - removed) + added; count = mark.count }

-- it is after what was removed, and stays within a buffer
abbrev pub CanMove : ℕ → ℕ → Mark → Type 0
CanMove removed added mark = (removed ≤ mark.begins) × ((mark.begins - removed) + added < 2 ^ 64)

-- WHERE LINES ARE AMONG OTHERS

-- the lines from one number to another, those before them, and those after them
pub record IsPlaced (from to : ℕ) (lines : Lines) (places : Places) : Type 0 where
  pub rises : places.first ≤ places.behind
  pub inside : places.behind ≤ length lines
  pub below : AllWithin (λ line. line.0 < from) lines 0 places.first
  pub among : AllWithin (λ line. is_within from to line.0 ≡ true) lines places.first places.behind
  pub above : AllWithin (λ line. (from ≤ line.0) × (to < line.0)) lines places.behind (length lines)
